-- The first of seven options, and whether there is none.
use Rattle.std.proofs.Common.{◌≡◌, Option, Some, None, Bool, true, false, not, refl, sym, ap}
use Rattle.std.specs.Option.{option_or}

pub chain : {A : Type 0} (a b c d e f g : Option A)
    → option_or (option_or (option_or (option_or (option_or (option_or a b) c) d) e) f) g ≡ option_or a (option_or b (option_or c (option_or d (option_or e (option_or f g)))))
chain (Some x) b c d e f g = refl
chain None (Some x) c d e f g = refl
chain None None (Some x) d e f g = refl
chain None None None (Some x) e f g = refl
chain None None None None (Some x) f g = refl
chain None None None None None (Some x) g = refl
chain None None None None None None g = refl

pub none_is : (some none : Bool) → some ≡ not none → none ≡ not some
none_is some true is = ap not (sym is)
none_is some false is = ap not (sym is)
