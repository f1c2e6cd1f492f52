-- Elements that are set by those behind them, which are set.
use Rattle.std.proofs.Common.{◌≡◌, refl, ℕ, suc, ◌-◌, ◌<◌, ◌≤◌, ◌∙◌, ap, ap₂, sym, arith, List, [], ◌∷◌, ◌++◌, length, get_or, take, drop, drop-cons, set, slice_get, Option, Bool, true, false, ◌&&◌, ◌||◌, if◌then◌else◌}
use Rattle.element_marks.specs.declared.words.Keyword.{Keyword}
use Rattle.element_marks.specs.declared.words.Keyword.TheVariants.{Modifier, AccessorModifier, Starts}
use Rattle.element_marks.specs.declared.words.Starter.TheVariants as starter
use Rattle.element_marks.specs.declared.mark.Mark.{Mark}
use Rattle.element_marks.specs.Words.{is_class, is_modifier, may_begin, starts_anywhere}
use Rattle.element_marks.specs.Sorts.{is_at, is_name, is_pound}
use Rattle.element_marks.specs.Heads.{angles, attribute_length, before_member, by_length, head, keyword_starts, modifies, modifies_before, name_tail, prefix_length, with_angles, with_heads, with_modifiers}
use Rattle.element_marks.specs.Passes.{begins_alone, begins_nothing, first_settled}
use Rattle.element_marks.proofs.Backward.{before_is, behind_is, blank, finished, here_is, set_as}
use Rattle.element_marks.proofs.Starting.{head_plain, head_with, modifies_is, settled}

-- one that is no modifier and begins no attribute and no angle part
abbrev pub alone : ℕ → Mark → Mark
alone count mark = record mark { angles = 0; modifies = false; head = count }

pub no_attribute : (mark : Mark) (marks : List Mark) → is_at mark ≡ false → attribute_length (mark ∷ marks) ≡ 0
unfolding attribute_length
no_attribute mark [] no_at = refl
no_attribute mark (name ∷ marks) no_at = ap (λ b. if b && is_name name then suc (suc (name_tail marks)) else 0) no_at

no_prefix : (count : ℕ) (mark : Mark) (marks : List Mark) → is_at mark ≡ false → 0 ≡ prefix_length (alone count mark ∷ marks)
no_prefix count mark marks no_at = sym (ap (λ n. by_length n 0 suc) (no_attribute (alone count mark) marks no_at))

no_modifier : (mark : Mark) (next : Option Mark) → is_modifier mark.keyword ≡ false → is_class mark.keyword ≡ false → modifies_before mark next ≡ false
no_modifier mark next plain no_class = ap₂ (λ a b. a || (b && before_member next)) plain no_class

alone_settled : (part : ℕ) (mark : Mark) (behind : List Mark) → is_at mark ≡ false → mark.begins_angle ≡ false → is_modifier mark.keyword ≡ false → is_class mark.keyword ≡ false → first_settled part (mark ∷ behind) ≡ alone (if is_pound mark || keyword_starts mark.keyword behind then 1 else 0) mark ∷ behind
alone_settled part mark behind no_at no_angle plain no_class =
    ap₂ (λ n b. record mark { angles = n; modifies = b; head = head (record mark { angles = n; modifies = b } ∷ behind) } ∷ behind)
    (ap (λ b. if b then part else 0) no_angle)
    (no_modifier mark (slice_get behind 0) plain no_class)
    ∙ ap (λ n. alone n mark ∷ behind) (sym (head_plain (alone mark.head mark ∷ behind) (no_prefix mark.head mark behind no_at)))

no_begin : (keyword : Keyword) (behind : List Mark) → may_begin keyword ≡ false → keyword_starts keyword behind ≡ false
no_begin Modifier behind none = cc
no_begin AccessorModifier behind none = cc
no_begin (Starts starter) behind none = cc
no_begin _ behind none = refl

no_begin_modifier : (keyword : Keyword) → may_begin keyword ≡ false → is_modifier keyword ≡ false
no_begin_modifier Modifier none = cc
no_begin_modifier AccessorModifier none = cc
no_begin_modifier _ none = refl

no_begin_class : (keyword : Keyword) → may_begin keyword ≡ false → is_class keyword ≡ false
no_begin_class (Starts starter) none = cc
no_begin_class _ none = refl

pub nothing_settled : (part : ℕ) (mark : Mark) (behind : List Mark) → begins_nothing mark ≡ true → first_settled part (mark ∷ behind) ≡ alone 0 mark ∷ behind
nothing_settled part mark behind is =
    let no_at : is_at mark ≡ false = grind (arith, is) in
    let no_pound : is_pound mark ≡ false = grind (arith, is) in
    let no_angle : mark.begins_angle ≡ false = grind (arith, is) in
    let none : may_begin mark.keyword ≡ false = grind (arith, is) in
    alone_settled part mark behind no_at no_angle (no_begin_modifier mark.keyword none) (no_begin_class mark.keyword none)
    ∙ ap₂ (λ a b. alone (if a || b then 1 else 0) mark ∷ behind) no_pound (no_begin mark.keyword behind none)

starts_always : (keyword : Keyword) (behind : List Mark) → starts_anywhere keyword ≡ true → keyword_starts keyword behind ≡ true
starts_always (Starts starter.Class) behind is = cc
starts_always (Starts starter.Actor) behind is = cc
starts_always (Starts starter.Macro) behind is = cc
starts_always (Starts _) behind is = refl
starts_always _ behind is = cc

starts_unmodified : (keyword : Keyword) → starts_anywhere keyword ≡ true → is_modifier keyword ≡ false
starts_unmodified (Starts starter) is = refl
starts_unmodified _ is = cc

starts_no_class : (keyword : Keyword) → starts_anywhere keyword ≡ true → is_class keyword ≡ false
starts_no_class (Starts starter.Class) is = cc
starts_no_class (Starts _) is = refl
starts_no_class _ is = cc

one_head : (a b : Bool) → b ≡ true → ◌≡◌ {A = ℕ} (if a || b then 1 else 0) 1
one_head true b is = refl
one_head false b is = ap (λ t. if t then 1 else 0) is

pub starter_settled : (part : ℕ) (mark : Mark) (behind : List Mark) → begins_alone mark ≡ true → first_settled part (mark ∷ behind) ≡ alone 1 mark ∷ behind
starter_settled part mark behind is =
    let no_at : is_at mark ≡ false = grind (arith, is) in
    let no_angle : mark.begins_angle ≡ false = grind (arith, is) in
    let some : starts_anywhere mark.keyword ≡ true = grind (arith, is) in
    alone_settled part mark behind no_at no_angle (starts_unmodified mark.keyword some) (starts_no_class mark.keyword some)
    ∙ ap (λ n. alone n mark ∷ behind) (one_head (is_pound mark) (keyword_starts mark.keyword behind) (starts_always mark.keyword behind some))

pub any_settled : (part angles : ℕ) (modifies : Bool) (count : ℕ) (mark : Mark) (behind : List Mark) → angles ≡ (if mark.begins_angle then part else 0) → modifies ≡ modifies_before mark (slice_get behind 0) → count ≡ head (record mark { angles = angles; modifies = modifies } ∷ behind) → first_settled part (mark ∷ behind) ≡ record mark { angles = angles; modifies = modifies; head = count } ∷ behind
any_settled part angles modifies count mark behind angled modified headed =
    ap₂ (λ n b. record mark { angles = n; modifies = b; head = head (record mark { angles = n; modifies = b } ∷ behind) } ∷ behind) (sym angled) (sym modified)
    ∙ ap (λ n. record mark { angles = angles; modifies = modifies; head = n } ∷ behind) (sym headed)

-- the element at a place is set
pub placed : (part at : ℕ) (marks : List Mark) (new : Mark) → at < length marks → first_settled part (get_or marks at blank ∷ drop (suc at) marks) ≡ new ∷ drop (suc at) marks → set marks at new ≡ take at marks ++ first_settled part (drop at marks)
placed part at marks new within is =
    set_as at marks new within
    ∙ ap (λ l. take at marks ++ l) (sym is)
    ∙ ap (λ l. take at marks ++ first_settled part l) (sym (drop-cons marks at blank within))

same_member : (marks : List Mark) → before_member (slice_get (with_heads marks) 0) ≡ before_member (slice_get marks 0)
same_member [] = refl
same_member (mark ∷ marks) = refl

-- as the passes set it
pub settled_step : (part : ℕ) (mark : Mark) (behind : List Mark) → (if mark.begins_angle then part else 0) ≡ angles (mark ∷ behind) → first_settled part (mark ∷ settled behind) ≡ settled (mark ∷ behind)
settled_step part mark behind is =
    let known = with_modifiers (with_angles behind) in
    let angled : Mark = record mark { angles = angles (mark ∷ behind) } in
    let modified : Mark = record angled { modifies = modifies (angled ∷ with_angles behind) } in
    let before : modifies_before mark (slice_get (settled behind) 0) ≡ modifies (angled ∷ with_angles behind) =
    ap (λ b. is_modifier mark.keyword || (is_class mark.keyword && b)) (same_member known)
    ∙ sym (modifies_is angled (with_angles behind)) in
    ap₂ (λ n b. record mark { angles = n; modifies = b; head = head (record mark { angles = n; modifies = b } ∷ with_heads known) } ∷ with_heads known) is before
    ∙ ap (λ n. record modified { head = n } ∷ with_heads known) (head_with modified.head modified known)

pub settled_more : (part at : ℕ) (marks now new : List Mark) → 0 < at → at ≤ length marks → now ≡ finished settled at marks → (if (get_or now (at - 1) blank).begins_angle then part else 0) ≡ angles (get_or now (at - 1) blank ∷ drop at marks) → new ≡ take (at - 1) now ++ first_settled part (drop (at - 1) now) → new ≡ finished settled (at - 1) marks
settled_more part at marks now new some within done angled is =
    let mark = get_or now (at - 1) blank in
    let rest : first_settled part (drop (at - 1) now) ≡ settled (drop (at - 1) marks) =
    ap (first_settled part) (behind_is settled at marks now blank some within done)
    ∙ settled_step part mark (drop at marks) angled
    ∙ ap settled (sym (here_is settled at marks now blank some within done)) in
    is ∙ ap₂ (λ a b. a ++ b) (before_is settled at marks now some within done) rest
