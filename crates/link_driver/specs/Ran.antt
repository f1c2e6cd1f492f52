-- What a run did for all that was wanted. This project's own.
use Rattle.std.specs.Prelude.{◌≡◌, ◌<◌, ◌++◌, ◌⊎◌, List, []}
use Rattle.std.specs.List.{flat_map}
use Rattle.swift_base.specs.Outside.{StarterSeen}
use Rattle.link_driver.specs.declared.link.TheConstants.{MOST_BYTES}
use Rattle.link_driver.specs.declared.link.Unstarted.{Unstarted}
use Rattle.link_driver.specs.Links.{LinkSeen}
use Rattle.link_driver.specs.Requests.{Wanted}
use Rattle.link_driver.specs.Driven.{Turn, requests_in, links_in, unstarted_in, AreTurns, AreWithin, bytes_of}

-- What was done, turn by turn, and what is left because processes gave more bytes than are read.
pub record HasRun (wanted : List Wanted) (before : StarterSeen) (links : List LinkSeen) (unstarted : List Unstarted) (after : StarterSeen) : Type 0 where
  pub turns : List Turn
  pub left : List Wanted
  pub in_order : wanted ≡ flat_map requests_in turns ++ left
  pub links_are : links ≡ flat_map links_in turns
  pub unstarted_are : unstarted ≡ flat_map unstarted_in turns
  pub are_turns : AreTurns before turns after
  pub within : AreWithin 0 turns
  pub limit : (left ≡ []) ⊎ (MOST_BYTES < bytes_of links)
