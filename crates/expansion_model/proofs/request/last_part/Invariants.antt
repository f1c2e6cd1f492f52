use Rattle.std.proofs.Common.{◌≡◌, ◌==◌, if◌then◌else◌, length}
use Rattle.std.specs.List.{list_any}
use Rattle.expansion_model.specs.Requests.{last_part}
use Rattle.expansion_model.proofs.request.last_part.Given as goal

abbrev pub invariant-parts : goal.invariant-parts
invariant-parts l = last_part l.name ≡ (if list_any (λ b. b == 47) l.rest then last_part l.rest else l.last)

abbrev pub decreases-parts : goal.decreases-parts
decreases-parts l = length l.rest
