-- No word begins with the discriminators of two keys.
use Rattle.std.proofs.Common.{◌≡◌, ℕ, ◌+◌, ◌<◌, ◌≤◌, List, [], ◌∷◌, ◌++◌, Option, Some, refl, sym, ◌∙◌, ap, arith, append_assoc, append-nil, option_map, ◌==◌, length, get_or, drop, add-one, drop-cons}
use Rattle.std.specs.List.{find}
use Rattle.std.proofs.Math.ListN.{drop_of_length-le}
use Rattle.std.proofs.Math.Utf8.{encode}
use Rattle.std.proofs.lemmas.Str.{encode_ascii}
use Rattle.unique_names.specs.declared.role.Role.{Role}
use Rattle.unique_names.specs.declared.role.Role.TheVariants.{Expression, Declaration, Accessor, MemberAttribute, Member, Peer, Extension}
use Rattle.unique_names.specs.declared.role.TheConstants.{ROLES}
use Rattle.unique_names.specs.declared.step.KeyStep.{KeyStep}
use Rattle.unique_names.specs.Roles.{letter_of}
use Rattle.unique_names.specs.Names.{numeral, step_text, steps_text, discriminator_of}
use Rattle.unique_names.proofs.Numerals.{IsDigit, numeral_is_digits, one_number, digits_end_alike}

abbrev lettered : ℕ → Option Role
lettered c = option_map (λ row. row.0) (find (λ row. row.1 == c) ROLES)

letter_back : (role : Role) → lettered (letter_of role) ≡ Some role
letter_back Expression = refl
letter_back Declaration = refl
letter_back Accessor = refl
letter_back MemberAttribute = refl
letter_back Member = refl
letter_back Peer = refl
letter_back Extension = refl

no_letter_is_a_digit : (role : Role) → ¬ IsDigit (letter_of role)
no_letter_is_a_digit Expression d = omega (arith, d.below)
no_letter_is_a_digit Declaration d = omega (arith, d.below)
no_letter_is_a_digit Accessor d = omega (arith, d.below)
no_letter_is_a_digit MemberAttribute d = omega (arith, d.below)
no_letter_is_a_digit Member d = omega (arith, d.below)
no_letter_is_a_digit Peer d = omega (arith, d.below)
no_letter_is_a_digit Extension d = omega (arith, d.below)

pub letter_is_ascii : (role : Role) → letter_of role < 128
letter_is_ascii Expression = omega arith
letter_is_ascii Declaration = omega arith
letter_is_ascii Accessor = omega arith
letter_is_ascii MemberAttribute = omega arith
letter_is_ascii Member = omega arith
letter_is_ascii Peer = omega arith
letter_is_ascii Extension = omega arith

letter_is_no_end : (role : Role) → 69 ≡ letter_of role → ⊥
letter_is_no_end role e = let found : lettered 69 ≡ Some role = ap lettered e ∙ letter_back role in cc

one_letter : (r s : Role) → letter_of r ≡ letter_of s → r ≡ s
one_letter r s e = let found : Some r ≡ Some s = sym (letter_back r) ∙ (ap lettered e ∙ letter_back s) in cc

opened : (s : KeyStep) (a : List KeyStep) (x : List ℕ) → steps_text (s ∷ a) ++ x ≡ numeral s.offset ++ letter_of s.role ∷ (numeral s.member ++ 95 ∷ (steps_text a ++ x))
unfolding steps_text step_text
opened s a x = simp append_assoc

end : (x : List ℕ) → steps_text [] ++ x ≡ 69 ∷ x
unfolding steps_text
end x = refl

steps_alike : (a b : List KeyStep) (x y : List ℕ) → steps_text a ++ x ≡ steps_text b ++ y → a ≡ b
steps_alike [] [] x y e = refl
steps_alike [] (t ∷ b) x y e =
    let s = digits_end_alike [] (numeral t.offset) 69 (letter_of t.role) x (numeral t.member ++ 95 ∷ (steps_text b ++ y))
    tt (numeral_is_digits t.offset) (λ d. omega (arith, d.below)) (no_letter_is_a_digit t.role) (sym (end x) ∙ (e ∙ opened t b y)) in
    let letter : 69 ≡ letter_of t.role = cc in absurd (letter_is_no_end t.role letter)
steps_alike (s ∷ a) [] x y e =
    let f = digits_end_alike [] (numeral s.offset) 69 (letter_of s.role) y (numeral s.member ++ 95 ∷ (steps_text a ++ x))
    tt (numeral_is_digits s.offset) (λ d. omega (arith, d.below)) (no_letter_is_a_digit s.role) (sym (end y) ∙ (sym e ∙ opened s a x)) in
    let letter : 69 ≡ letter_of s.role = cc in absurd (letter_is_no_end s.role letter)
steps_alike (s ∷ a) (t ∷ b) x y e =
    let front = digits_end_alike (numeral s.offset) (numeral t.offset) (letter_of s.role) (letter_of t.role) (numeral s.member ++ 95 ∷ (steps_text a ++ x)) (numeral t.member ++ 95 ∷ (steps_text b ++ y))
    (numeral_is_digits s.offset) (numeral_is_digits t.offset) (no_letter_is_a_digit s.role) (no_letter_is_a_digit t.role) (sym (opened s a x) ∙ (e ∙ opened t b y)) in
    let letter : letter_of s.role ≡ letter_of t.role = cc in
    let behind : numeral s.member ++ 95 ∷ (steps_text a ++ x) ≡ numeral t.member ++ 95 ∷ (steps_text b ++ y) = cc in
    let back = digits_end_alike (numeral s.member) (numeral t.member) 95 95 (steps_text a ++ x) (steps_text b ++ y)
    (numeral_is_digits s.member) (numeral_is_digits t.member) (λ d. omega (arith, d.below)) (λ d. omega (arith, d.below)) behind in
    let others : steps_text a ++ x ≡ steps_text b ++ y = cc in
    let tail = steps_alike a b x y others in
    let offset = one_number s.offset t.offset front.digits in
    let role = one_letter s.role t.role letter in
    let member = one_number s.member t.member back.digits in
    λ i. record { offset = offset i; role = role i; member = member i } ∷ tail i

pub one_key_begins : (a b : List KeyStep) (x y : List ℕ) → discriminator_of a ++ x ≡ discriminator_of b ++ y → a ≡ b
unfolding discriminator_of
one_key_begins a b x y e = let rest : steps_text a ++ x ≡ steps_text b ++ y = cc in steps_alike a b x y rest

pub prefix_free : (a b : List KeyStep) (x : List ℕ) → discriminator_of a ++ x ≡ discriminator_of b → a ≡ b
prefix_free a b x e = one_key_begins a b x [] (e ∙ sym (append-nil (discriminator_of b)))

-- what the code writes of a step
pub step_text_written : (s : KeyStep) → step_text s ≡ (((numeral s.offset ++ encode (letter_of s.role)) ++ numeral s.member) ++ encode 95)
unfolding step_text
step_text_written s = let l : letter_of s.role < 128 = letter_is_ascii s.role in simp (append_assoc, encode_ascii (letter_of s.role) l, encode_ascii 95 (omega arith))

pub steps_text_at : (s : List KeyStep) (i : ℕ) (d : KeyStep) → i < length s → steps_text (drop i s) ≡ step_text (get_or s i d) ++ steps_text (drop (i + 1) s)
unfolding steps_text
steps_text_at s i d h = rw (add-one, drop-cons s i d) refl

pub steps_text_end : (s : List KeyStep) (i : ℕ) → length s ≤ i → steps_text (drop i s) ≡ 69 ∷ []
unfolding steps_text
steps_text_end s i h = rw (drop_of_length-le s h) refl
