-- Which process may be asked again: one that gave its replies, and nothing else. This project's own.
use Rattle.std.specs.Prelude.{◌≡◌, ℕ, ◌+◌, false, List, [], length}
use Rattle.std.specs.List.{Contains}
use Rattle.plugin_frames.specs.Frames.{Rest, IsFrames}
use Rattle.link_driver.specs.Links.{KeySteps, LinkSeen}
use Rattle.link_driver.specs.Lists.{Each}
use Rattle.link_driver.specs.Driven.{AreReplies}

-- A process took each request whole, and gave the greeting's answer, a reply to each request, and nothing else.
pub record GaveItsReplies (link : LinkSeen) : Type 0 where
  pub written : link.write_failed ≡ false
  pub payloads : List (List ℕ)
  pub frames : IsFrames link.got payloads (Rest [])
  pub replies : AreReplies (length link.asked) payloads
  pub all : length payloads ≡ length link.asked + 1

-- none of the processes that are asked nothing more was asked for this key and gave its replies, and nothing else
abbrev pub KeepsWhatReplies : KeySteps → List LinkSeen → Type 0
KeepsWhatReplies key links = Each (λ link. Contains link.asked key → ¬ GaveItsReplies link) links
