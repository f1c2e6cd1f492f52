-- Passes over a list from its last element to its first: what stands before a place is as it was.
use Rattle.std.proofs.Common.{◌≡◌, refl, ℕ, zero, suc, ◌-◌, ◌<◌, ◌≤◌, ◌∙◌, ap, sym, subst, arith, List, [], ◌∷◌, ◌++◌, append-nil, length, get_or, take, take_all, drop, drop_of_length-le, set, slice_get, false}
use Rattle.element_marks.specs.declared.words.Keyword.TheVariants.{Plain}
use Rattle.element_marks.specs.declared.mark.Sort.TheVariants as sort
use Rattle.element_marks.specs.declared.mark.Mark.{Mark}

-- what stands past a list's end
abbrev pub blank : Mark
blank = record {
  sort = sort.Word;
  keyword = Plain;
  start = 0;
  end = 0;
  first = false;
  spaced = false;
  opens = 0;
  closes = 0;
  begins_angle = false;
  ends_angle = false;
  joins = false;
  angles = 0;
  modifies = false;
  head = 0;
}

-- the elements before a place, and what a pass makes of those from there on
abbrev pub finished : {A : Type 0} → (List A → List A) → ℕ → List A → List A
finished pass at marks = take at marks ++ pass (drop at marks)

pub all_left : {A : Type 0} (pass : List A → List A) (marks : List A) → pass [] ≡ [] → marks ≡ finished pass (length marks) marks
all_left pass marks none =
    sym (ap (λ l. take (length marks) marks ++ pass l) (drop_of_length-le marks (omega arith))
    ∙ ap (λ l. take (length marks) marks ++ l) none
    ∙ append-nil (take (length marks) marks)
    ∙ take_all (length marks) marks (omega arith))

finish_drop : {A : Type 0} (at : ℕ) (marks rest : List A) (d : A) → at < length marks → drop at (take (suc at) marks ++ rest) ≡ get_or (take (suc at) marks ++ rest) at d ∷ rest
finish_drop at [] rest d within = absurd (omega (arith, within))
finish_drop zero (mark ∷ marks) rest d within = refl
finish_drop (suc at) (mark ∷ marks) rest d within = finish_drop at marks rest d (omega (arith, within))

finish_at : {A : Type 0} (at : ℕ) (marks rest : List A) (d : A) → at < length marks → drop at marks ≡ get_or (take (suc at) marks ++ rest) at d ∷ drop (suc at) marks
finish_at at [] rest d within = absurd (omega (arith, within))
finish_at zero (mark ∷ marks) rest d within = refl
finish_at (suc at) (mark ∷ marks) rest d within = finish_at at marks rest d (omega (arith, within))

-- the element before the place is the one that was there
pub here_is : {A : Type 0} (pass : List A → List A) (at : ℕ) (marks now : List A) (d : A) → 0 < at → at ≤ length marks → now ≡ finished pass at marks → drop (at - 1) marks ≡ get_or now (at - 1) d ∷ drop at marks
here_is pass zero marks now d some within is = absurd (omega (arith, some))
here_is pass (suc at) marks now d some within is =
    let before : at ≡ suc at - 1 = omega arith in
    subst (λ n. drop n marks ≡ get_or now n d ∷ drop (suc at) marks) before
    (finish_at at marks (pass (drop (suc at) marks)) d (omega (arith, within)) ∙ ap (λ l. get_or l at d ∷ drop (suc at) marks) (sym is))

-- and what stands behind it is done
pub behind_is : {A : Type 0} (pass : List A → List A) (at : ℕ) (marks now : List A) (d : A) → 0 < at → at ≤ length marks → now ≡ finished pass at marks → drop (at - 1) now ≡ get_or now (at - 1) d ∷ pass (drop at marks)
behind_is pass zero marks now d some within is = absurd (omega (arith, some))
behind_is pass (suc at) marks now d some within is =
    let before : at ≡ suc at - 1 = omega arith in
    subst (λ n. drop n now ≡ get_or now n d ∷ pass (drop (suc at) marks)) before
    (ap (drop at) is ∙ finish_drop at marks (pass (drop (suc at) marks)) d (omega (arith, within)) ∙ ap (λ l. get_or l at d ∷ pass (drop (suc at) marks)) (sym is))

pub set_twice : {A : Type 0} (at : ℕ) (marks : List A) (one other : A) → set (set marks at one) at other ≡ set marks at other
set_twice at [] one other = refl
set_twice zero (mark ∷ marks) one other = refl
set_twice (suc at) (mark ∷ marks) one other = ap (λ l. mark ∷ l) (set_twice at marks one other)

pub set_as : {A : Type 0} (at : ℕ) (marks : List A) (new : A) → at < length marks → set marks at new ≡ take at marks ++ new ∷ drop (suc at) marks
set_as at [] new within = absurd (omega (arith, within))
set_as zero (mark ∷ marks) new within = refl
set_as (suc at) (mark ∷ marks) new within = ap (λ l. mark ∷ l) (set_as at marks new (omega (arith, within)))

taken : {A : Type 0} (at : ℕ) (marks rest : List A) → at < length marks → take at (take (suc at) marks ++ rest) ≡ take at marks
taken at [] rest within = absurd (omega (arith, within))
taken zero (mark ∷ marks) rest within = refl
taken (suc at) (mark ∷ marks) rest within = ap (λ l. mark ∷ l) (taken at marks rest (omega (arith, within)))

-- what stands before the element before the place is as it was
pub before_is : {A : Type 0} (pass : List A → List A) (at : ℕ) (marks now : List A) → 0 < at → at ≤ length marks → now ≡ finished pass at marks → take (at - 1) now ≡ take (at - 1) marks
before_is pass zero marks now some within is = absurd (omega (arith, some))
before_is pass (suc at) marks now some within is =
    let before : at ≡ suc at - 1 = omega arith in
    subst (λ n. take n now ≡ take n marks) before
    (ap (take at) is ∙ taken at marks (pass (drop (suc at) marks)) (omega (arith, within)))

left : {A : Type 0} (at : ℕ) (marks rest : List A) → at ≤ length marks → drop at (take at marks ++ rest) ≡ rest
left zero marks rest within = refl
left (suc at) [] rest within = absurd (omega (arith, within))
left (suc at) (mark ∷ marks) rest within = left at marks rest (omega (arith, within))

-- what stands from the place on is done
pub left_is : {A : Type 0} (pass : List A → List A) (at : ℕ) (marks now : List A) → at ≤ length marks → now ≡ finished pass at marks → drop at now ≡ pass (drop at marks)
left_is pass at marks now within is = ap (drop at) is ∙ left at marks (pass (drop at marks)) within

-- the element at a place is the first of those behind as many
pub first_left : {A : Type 0} (at : ℕ) (marks : List A) → slice_get marks at ≡ slice_get (drop at marks) 0
first_left zero marks = refl
first_left (suc at) [] = refl
first_left (suc at) (mark ∷ marks) = first_left at marks
