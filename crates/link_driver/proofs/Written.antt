-- What a reader gave, piece after piece, and what a writer was given.
use Rattle.std.proofs.Common.{◌≡◌, ℕ, zero, suc, ◌<◌, ◌≤◌, Bool, true, false, Option, Some, None, Result, Ok, Err, IfOk, List, [], ◌++◌, length, take, refl, sym, ap, subst, ◌∙◌, append_assoc, append-nil, arith, inl, inr}
use Rattle.swift_base.specs.Told.{Tells, prepend, then_bytes, Rose}
use Rattle.swift_base.specs.Outside.{SourceSeen, SinkSeen, IsClosedBy}
use Rattle.link_driver.specs.Links.{Gains, Holds, IsGiven, IsWritten}

prepend-none : (left : Option (List ℕ)) → left ≡ prepend [] left
prepend-none None = refl
prepend-none (Some left) = refl

pub prepend-prepend : (a b : List ℕ) (left : Option (List ℕ)) → prepend a (prepend b left) ≡ prepend (a ++ b) left
prepend-prepend a b None = refl
prepend-prepend a b (Some left) = ap Some (sym (append_assoc a b left))

pub gains_none : (reader : SourceSeen) (got : List ℕ) → Gains reader got reader got
gains_none reader got = record { gained = []; appended = sym (append-nil got); given = prepend-none reader.left }

pub gains_more : (first then last : SourceSeen) (one two three : List ℕ) → Gains first one then two → Gains then two last three → Gains first one last three
gains_more first then last one two three a b = record {
  gained = a.gained ++ b.gained;
  appended = b.appended ∙ ap (λ (g : List ℕ). g ++ b.gained) a.appended ∙ append_assoc one a.gained b.gained;
  given = a.given ∙ ap (prepend a.gained) b.given ∙ prepend-prepend a.gained b.gained last.left;
}

-- what a process gave and has left stays the same
pub gains_whole : (before after : SourceSeen) (old new : List ℕ) → Gains before old after new → prepend old before.left ≡ prepend new after.left
gains_whole before after old new gains =
    ap (prepend old) gains.given ∙ prepend-prepend old gains.gained after.left ∙ ap (λ (g : List ℕ). prepend g after.left) (sym gains.appended)

abbrev HoldsFront : List ℕ → List ℕ → List ℕ → Type 0
HoldsFront bytes sent held = (n : ℕ) × (n < length sent) × (held ≡ bytes ++ take n sent)

tells_sent : (bytes sent : List ℕ) (before after : Option (List ℕ)) → Tells before (λ held. held ≡ bytes) → after ≡ then_bytes before sent
    → Tells after (λ held. held ≡ bytes ++ sent)
tells_sent bytes sent None after holds is = subst (λ h. Tells h (λ held. held ≡ bytes ++ sent)) (sym is) tt
tells_sent bytes sent (Some held) after holds is =
    subst (λ h. Tells h (λ now. now ≡ bytes ++ sent)) (sym is) (ap (λ (front : List ℕ). front ++ sent) holds)

tells_front : (bytes sent : List ℕ) (n : ℕ) (before after : Option (List ℕ)) → n < length sent → Tells before (λ held. held ≡ bytes)
    → after ≡ then_bytes before (take n sent) → Tells after (HoldsFront bytes sent)
tells_front bytes sent n None after less holds is = subst (λ h. Tells h (HoldsFront bytes sent)) (sym is) tt
tells_front bytes sent n (Some held) after less holds is =
    subst (λ h. Tells h (HoldsFront bytes sent)) (sym is) (n, less, ap (λ (front : List ℕ). front ++ take n sent) holds)

true_false : false ≡ true → ⊥
true_false is = let P : Bool → Type 0 = λ b. elim b [ true ↦ ⊥ | false ↦ Unit {0} ] in subst P is tt

above : (before now : ℕ) → Rose before now → before ≤ now → 0 < now
above before now (inl rose) grows = omega arith
above before now (inr stands) grows = omega arith

-- a whole write
pub given_whole : (bytes sent : List ℕ) (before after : SinkSeen) → Holds bytes before → after.held ≡ then_bytes before.held sent → after.closing ≡ before.closing
    → IsGiven bytes sent false after
given_whole bytes sent before after holds held closing = record {
  whole = λ _. tells_sent bytes sent before.held after.held holds.held held;
  front = λ failed. absurd (true_false failed);
  cause = λ failed. absurd (true_false failed);
  open_still = subst (λ c. Tells c (λ closed. closed ≡ None)) (sym closing) holds.open_still;
}

-- a write that failed
pub given_front : (bytes sent : List ℕ) (before after : SinkSeen) → Holds bytes before
    → (n : ℕ) × (n < length sent) × (after.held ≡ then_bytes before.held (take n sent)) → Rose before.faults after.faults → before.faults ≤ after.faults
    → after.closing ≡ before.closing → IsGiven bytes sent true after
given_front bytes sent before after holds front rose grows closing = record {
  whole = λ kept. absurd (true_false (sym kept));
  front = λ _. tells_front bytes sent front.0 before.held after.held front.1 holds.held front.2;
  cause = λ _. above before.faults after.faults rose grows;
  open_still = subst (λ c. Tells c (λ closed. closed ≡ None)) (sym closing) holds.open_still;
}

pub holds_given : (bytes sent : List ℕ) (writer : SinkSeen) → IsGiven bytes sent false writer → Holds (bytes ++ sent) writer
holds_given bytes sent writer given = record { held = given.whole refl; open_still = given.open_still }

pub given_held : (bytes sent : List ℕ) (writer : SinkSeen) → Holds (bytes ++ sent) writer → IsGiven bytes sent false writer
given_held bytes sent writer holds = record {
  whole = λ _. holds.held;
  front = λ failed. absurd (true_false failed);
  cause = λ failed. absurd (true_false failed);
  open_still = holds.open_still;
}

above_more : (before now : ℕ) → 0 < before → before ≤ now → 0 < now
above_more before now some grows = omega arith

some_none : (at : ℕ) → Some at ≡ None → ⊥
some_none at is = let P : Option ℕ → Type 0 = λ o. elim o [ None ↦ ⊥ | Some n ↦ Unit {0} ] in subst P is tt

closed_at : (held now : Option (List ℕ)) (before after : Option (Option ℕ)) → Tells before (λ closing. closing ≡ None) → now ≡ held → IsClosedBy held before after
    → Tells after (λ closing. (at : ℕ) × (closing ≡ Some at) × Tells now (λ bytes. at ≡ length bytes))
closed_at held now None after open_still same closed = subst (λ c. Tells c (λ closing. (at : ℕ) × (closing ≡ Some at) × Tells now (λ bytes. at ≡ length bytes))) (sym closed) tt
closed_at held now (Some None) after open_still same closed =
    subst (λ c. Tells c (λ closing. (at : ℕ) × (closing ≡ Some at) × Tells now (λ bytes. at ≡ length bytes))) (sym closed.1)
    (closed.0, refl, subst (λ h. Tells h (λ bytes. closed.0 ≡ length bytes)) (sym same) closed.2)
closed_at held now (Some (Some at)) after open_still same closed = absurd (some_none at open_still)

-- closing a writer
pub closed_after : (earlier last : List ℕ) (write_failed : Bool) (before after : SinkSeen) → IsGiven earlier last write_failed before → after.held ≡ before.held
    → before.faults ≤ after.faults → IsClosedBy before.held before.closing after.closing → IsWritten earlier last write_failed after
closed_after earlier last write_failed before after given held grows closed = record {
  whole = λ kept. subst (λ h. Tells h (λ now. now ≡ earlier ++ last)) (sym held) (given.whole kept);
  front = λ failed. subst (λ h. Tells h (HoldsFront earlier last)) (sym held) (given.front failed);
  cause = λ failed. above_more before.faults after.faults (given.cause failed) grows;
  closed = closed_at before.held after.held before.closing after.closing given.open_still held closed;
}

pub nothing_taken : (held : Option (List ℕ)) (n : ℕ) → then_bytes held (take n []) ≡ held
nothing_taken None n = refl
nothing_taken (Some held) zero = ap Some (append-nil held)
nothing_taken (Some held) (suc n) = ap Some (append-nil held)

-- what holds of a result by three facts about it
pub by_three : {A E : Type 0} (result : Result A E) (P Q R S : A → Type 0) → ((x : A) → P x → Q x → R x → S x) → IfOk result P → IfOk result Q → IfOk result R
    → IfOk result S
by_three (Ok x) P Q R S so p q r = so x p q r
by_three (Err e) P Q R S so p q r = tt

pub by_one : {A E : Type 0} (result : Result A E) (P S : A → Type 0) → ((x : A) → P x → S x) → IfOk result P → IfOk result S
by_one (Ok x) P S so p = so x p
by_one (Err e) P S so p = tt
