-- The last of some bindings.
use Rattle.std.proofs.Common.{◌≡◌, ap, sym, arith, suc, ◌-◌, length, List, [], ◌∷◌, slice_get, Some, ◌∙◌}
use Rattle.decl_parser.specs.declared.bindings.Bound.{Bound}
use Rattle.decl_parser.specs.Parts.{last_block}

last_of : (bound : Bound) (others : List Bound) (last : Bound) → slice_get (bound ∷ others) (length others) ≡ Some last → last.block ≡ last_block (bound ∷ others)
last_of bound [] last is = let same : bound ≡ last = cc in ap (λ b. b.block) (sym same)
last_of bound (next ∷ others) last is = last_of next others last is

pub last_block_is : (bounds : List Bound) (last : Bound) → slice_get bounds (length bounds - 1) ≡ Some last → last.block ≡ last_block bounds
last_block_is [] last is = cc
last_block_is (bound ∷ others) last is =
    let place : suc (length others) - 1 ≡ length others = omega arith in
    last_of bound others last (sym (ap (slice_get (bound ∷ others)) place) ∙ is)
