-- What holds of the value of an outcome, where it is one.
use Rattle.std.proofs.Common.{◌≡◌, refl, subst, Result, Ok, Err, Bool, true, false, if◌then◌else◌}
use Rattle.element_marks.specs.Answers.{and_then}

abbrev pub OkHolds : {A F : Type 0} → (A → Type 0) → Result A F → Type 0
OkHolds P (Ok value) = P value
OkHolds P (Err found) = Unit {0}

pub ok_then : {A B F : Type 0} (P : B → Type 0) (first : Result A F) (next : A → Result B F) → ((one : A) → first ≡ Ok one → OkHolds P (next one)) → OkHolds P (and_then first next)
ok_then P (Ok one) next holds = holds one refl
ok_then P (Err found) next holds = tt

pub ok_if : {A F : Type 0} (P : A → Type 0) (test : Bool) (yes_ no_ : Result A F) → (test ≡ true → OkHolds P yes_) → (test ≡ false → OkHolds P no_) → OkHolds P (if test then yes_ else no_)
ok_if P true yes_ no_ holds otherwise = holds refl
ok_if P false yes_ no_ holds otherwise = otherwise refl

pub ok_at : {A F : Type 0} (P : A → Type 0) (outcome : Result A F) (value : A) → outcome ≡ Ok value → OkHolds P outcome → P value
ok_at P outcome value is holds = subst (OkHolds P) is holds
