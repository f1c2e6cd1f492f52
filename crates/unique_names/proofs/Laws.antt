-- What holds of all keys and roles.
use Rattle.std.proofs.Common.{◌≡◌, List, Some, refl, rules, true, subst, ap}
use Rattle.std.specs.Bool.{Decides}
use denote.Enum.Bare.{sameb, same_true}
use Rattle.std.proofs.lemmas.Bool.Decides.{Decides-and, Decides-eqb}
use Rattle.unique_names.specs.contracts.role.Role.{the_type}
use Rattle.std.specs.Cmp.Lexicographic.{pointwise, pointwise_decides}
use Rattle.unique_names.specs.declared.role.Role.{Role}
use Rattle.unique_names.specs.declared.role.Role.TheVariants.{Expression, Declaration, Accessor, MemberAttribute, Member, Peer, Extension}
use Rattle.unique_names.specs.declared.step.KeyStep.{KeyStep}
use Rattle.unique_names.specs.Roles.{text_of, role_of}
use Rattle.unique_names.specs.Steps.{step_eq}

role_decides : (r s : Role) → Decides (sameb the_type r s) (r ≡ s)
role_decides r s = (same_true the_type (search rules) r s, λ e. subst (λ t. sameb the_type r t ≡ true) e (role_itself r))
  where
    role_itself : (t : Role) → sameb the_type t t ≡ true
    role_itself Expression = refl
    role_itself Declaration = refl
    role_itself Accessor = refl
    role_itself MemberAttribute = refl
    role_itself Member = refl
    role_itself Peer = refl
    role_itself Extension = refl

step_decides : (x y : KeyStep) → Decides (step_eq x y) (x ≡ y)
step_decides x y =
    let parts = Decides-and _ _ (Decides-eqb x.offset y.offset) (Decides-and _ _ (role_decides x.role y.role) (Decides-eqb x.member y.member)) in
    (λ e. let p = parts.0 e in λ i. record { offset = p.0 i; role = p.1.0 i; member = p.1.1 i }, λ e. parts.1 (ap (λ (s : KeyStep). s.offset) e, (ap (λ (s : KeyStep). s.role) e, ap (λ (s : KeyStep). s.member) e)))

pub keys_decide : (a b : List KeyStep) → Decides (pointwise step_eq a b) (a ≡ b)
keys_decide a b = pointwise_decides step_decides a b

pub role_of_text : (role : Role) → role_of (text_of role) ≡ Some role
role_of_text Expression = refl
role_of_text Declaration = refl
role_of_text Accessor = refl
role_of_text MemberAttribute = refl
role_of_text Member = refl
role_of_text Peer = refl
role_of_text Extension = refl
