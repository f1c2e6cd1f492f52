-- What the brackets of an element hold lies between them.
use Rattle.std.proofs.Common.{arith, ℕ, ◌+◌, ◌-◌, ◌≤◌, List, [], ◌∷◌}
use Rattle.swift_tree.specs.Outlines.{items_from}
use Rattle.element_marks.specs.declared.mark.Mark.{Mark}
use Rattle.decl_parser.specs.Held.{Held, first_held}
use Rattle.decl_parser.specs.Nesting.{ItemsLie, PartsLie}
use Rattle.decl_parser.proofs.Outcomes.{OkHolds}
use Rattle.decl_parser.proofs.Ordered.{Beside}
use Rattle.decl_parser.proofs.Wider.{parts_wider}

pub record HeldLies (start : ℕ) (held : Held) (end : ℕ) : Type 0 where
  pub members : OkHolds (λ items. ItemsLie (start + 1) (items_from items) (end - 1)) held.members
  pub names : PartsLie (start + 1) held.names (end - 1)

-- the same of the first element, where there is one
pub first_held_lies : (mark : Mark) (marks : List Mark) (held : List Held) → Beside HeldLies (mark ∷ marks) held → HeldLies mark.start (first_held held) mark.end
first_held_lies mark marks [] holds = record { members = tt; names = tt }
first_held_lies mark marks (held ∷ others) holds = holds.0

pub held_names : (from : ℕ) (mark : Mark) (marks : List Mark) (held : List Held) → from ≤ mark.start → Beside HeldLies (mark ∷ marks) held → PartsLie from (first_held held).names mark.end
held_names from mark marks held less holds = parts_wider from (mark.start + 1) (mark.end - 1) mark.end (first_held held).names (omega arith) (omega arith) (first_held_lies mark marks held holds).names
