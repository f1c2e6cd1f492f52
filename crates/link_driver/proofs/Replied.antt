-- Each key of a process but its last has a reply.
use Rattle.std.proofs.Common.{◌≡◌, ℕ, zero, suc, ◌+◌, ◌<◌, ◌⊎◌, ◌==◌, ◌&&◌, not, Bool, true, false, if◌then◌else◌, Option, Some, List, [], ◌∷◌, ◌++◌, length, slice_get, refl, sym, ap, subst, ◌∙◌, length-append, arith, inl, inr}
use Rattle.std.proofs.lemmas.List.{length-map}
use Rattle.std.proofs.lemmas.Bool.Decides.{nat_tests}
use Rattle.plugin_frames.specs.Frames.{Tail, Rest, IsFrames}
use Rattle.plugin_frames.specs.Laws.{EachListIsFrames, OneReading, FramesGoOn}
use Rattle.plugin_messages.specs.PluginOf.{plugin_message_of}
use Rattle.plugin_messages.specs.declared.message.Outcome.{Outcome}
use Rattle.link_driver.specs.declared.link.Stop.{Stop}
use Rattle.link_driver.specs.LinkTable.{reply_outcome, is_reply, is_result, is_capability, is_length, greets_badly, is_next, replied, outcome_at, each_below}
use Rattle.link_driver.specs.Driven.{HasGreeted, AreReplies}
use Rattle.link_driver.specs.Lists.{Each}
use Rattle.link_driver.specs.Laws.{OnlyLastKeysFail}

below_count : {A : Type 0} (f : ℕ → A) (count : ℕ) → length (each_below f count) ≡ count
below_count f zero = refl
below_count f (suc n) = omega (arith, length-append (each_below f n) (f n ∷ []), below_count f n)

pub get_front : {A : Type 0} (xs ys : List A) (i : ℕ) → i < length xs → slice_get (xs ++ ys) i ≡ slice_get xs i
get_front [] ys i less = absurd (omega arith)
get_front (x ∷ xs) ys zero less = refl
get_front (x ∷ xs) ys (suc i) less = get_front xs ys i (omega (arith, less))

pub get_last : {A : Type 0} (xs : List A) (x : A) (i : ℕ) → i ≡ length xs → slice_get (xs ++ x ∷ []) i ≡ Some x
get_last [] x zero is = refl
get_last [] x (suc i) is = absurd (omega (arith, is))
get_last (y ∷ ys) x zero is = absurd (omega (arith, is))
get_last (y ∷ ys) x (suc i) is = get_last ys x i (omega (arith, is))

below_or_last : (n number : ℕ) → number < suc n → (number < n) ⊎ (number ≡ n)
below_or_last zero zero less = inr refl
below_or_last zero (suc k) less = absurd (omega (arith, less))
below_or_last (suc n) zero less = inl (omega arith)
below_or_last (suc n) (suc k) less = elim (below_or_last n k (omega (arith, less))) [
  | inl below ↦ inl (omega (arith, below))
  | inr last ↦ inr (ap suc last)
]

below_at : {A : Type 0} (f : ℕ → A) (count number : ℕ) → number < count → slice_get (each_below f count) number ≡ Some (f number)
below_at f zero number less = absurd (omega arith)
below_at f (suc n) number less = elim (below_or_last n number less) [
  | inl below ↦ get_front (each_below f n) (f n ∷ []) number (omega (arith, below, below_count f n)) ∙ below_at f n number below
  | inr last ↦ get_last (each_below f n) (f n) number (last ∙ sym (below_count f n)) ∙ ap (λ (k : ℕ). Some (f k)) (sym last)
]

pub and_no : (b : Bool) → (b && false) ≡ false
and_no true = refl
and_no false = refl

pub neither : {A : Type 0} (p q : Bool) (x y z : A) → p ≡ false → q ≡ false → (if p then x else if q then y else z) ≡ z
neither true q x y z is other = absurd (cc)
neither false true x y z is other = absurd (cc)
neither false false x y z is other = refl

-- a reply in each place
reply_at : (replies : List (List ℕ)) (number : ℕ) → number < length replies → Each (λ reply. is_result reply ≡ true) replies
    → (reply : List ℕ) × (slice_get replies number ≡ Some reply) × (is_result reply ≡ true)
reply_at [] number less each = absurd (omega arith)
reply_at (reply ∷ more) zero less each = (reply, refl, each.0)
reply_at (reply ∷ more) (suc n) less each = reply_at more n (omega (arith, less)) each.1

pub greeting_stands : (greeting : List ℕ) (payloads replies : List (List ℕ)) → payloads ≡ greeting ∷ replies → is_capability (plugin_message_of greeting) ≡ true
    → greets_badly payloads ≡ false
greeting_stands greeting payloads replies is greets = ap greets_badly is ∙ ap not greets

pub greets_same : (payloads more : List (List ℕ)) → 0 < length payloads → greets_badly (payloads ++ more) ≡ greets_badly payloads
greets_same [] more some = absurd (omega (arith, some))
greets_same (greeting ∷ replies) more some = refl

plus_one : (n : ℕ) → n + 1 ≡ suc n
plus_one n = omega arith

reply_in : (greeting : List ℕ) (payloads replies : List (List ℕ)) (number : ℕ) → payloads ≡ greeting ∷ replies → slice_get payloads (number + 1) ≡ slice_get replies number
reply_in greeting payloads replies number is = ap (λ (p : List (List ℕ)). slice_get p (number + 1)) is ∙ ap (λ (n : ℕ). slice_get (greeting ∷ replies) n) (plus_one number)

replied_at : (count : ℕ) (payloads : List (List ℕ)) (too_long : Bool) (stop : Stop) (write_failed : Bool) (number : ℕ) (reply : List ℕ)
    → (number + 1 == count) ≡ false → greets_badly payloads ≡ false → slice_get payloads (number + 1) ≡ Some reply
    → outcome_at count payloads too_long stop write_failed number ≡ Some (reply_outcome (plugin_message_of reply))
unfolding outcome_at
replied_at count payloads too_long stop write_failed number reply not_last good is =
    let too : Bool = too_long && is_next number payloads in
    neither (write_failed && (number + 1 == count)) ((number == 0) && greets_badly payloads) _ _ _
    (ap (λ b. write_failed && b) not_last ∙ and_no write_failed) (ap (λ b. (number == 0) && b) good ∙ and_no (number == 0))
    ∙ ap (λ (o : Option (List ℕ)). replied o too stop) is

pub not_last : (number count : ℕ) → number + 1 < count → (number + 1 == count) ≡ false
not_last number count less = grind (arith, nat_tests)

-- what is read of the whole begins with what is read of the front
pub begins_with : (front behind : List ℕ) (first payloads : List (List ℕ)) (tail : Tail) → EachListIsFrames → OneReading → FramesGoOn → IsFrames front first (Rest [])
    → IsFrames (front ++ behind) payloads tail → (more : List (List ℕ)) × (payloads ≡ first ++ more)
begins_with front behind first payloads tail some one goes frames whole =
    let later = some behind in
    (later.0, (one (front ++ behind) payloads (first ++ later.0) tail later.1 whole (goes front behind [] first later.0 later.1 frames later.2)).0)

-- at least so many replies stand there
replied_among : (count number : ℕ) (payloads : List (List ℕ)) → number < count → AreReplies count payloads → HasGreeted count payloads
replied_among zero number payloads less are = absurd (omega (arith, less))
replied_among (suc count) number payloads less are = are

reply_of : (count number keys : ℕ) (first more payloads : List (List ℕ)) (too_long : Bool) (stop : Stop) (write_failed : Bool) → number < count → number + 1 < keys
    → HasGreeted count first → payloads ≡ first ++ more
    → (o : Outcome) × (outcome_at keys payloads too_long stop write_failed number ≡ Some o) × (is_reply o ≡ true)
reply_of count number keys first more payloads too_long stop write_failed less behind greeted is =
    let reply = reply_at greeted.replies number (omega (arith, less, greeted.enough)) greeted.each in
    let splits : payloads ≡ greeted.greeting ∷ (greeted.replies ++ more) = is ∙ ap (λ (p : List (List ℕ)). p ++ more) greeted.in_order in (
      reply_outcome (plugin_message_of reply.0),
      replied_at keys payloads too_long stop write_failed number reply.0 (not_last number keys behind)
          (greeting_stands greeted.greeting payloads (greeted.replies ++ more) splits greeted.greets)
          (reply_in greeted.greeting payloads (greeted.replies ++ more) number splits
          ∙ get_front greeted.replies more number (omega (arith, less, greeted.enough)) ∙ reply.1),
      reply.2,
    )

pub only_last_keys_fail : EachListIsFrames → OneReading → FramesGoOn → OnlyLastKeysFail
only_last_keys_fail some one goes earlier last link outcomes process table number less =
    let has = process.replied in
    let keys : length link.asked ≡ length earlier + 1 =
    ap length process.asked ∙ length-map _ _ ∙ length-append earlier (last ∷ []) in
    let count : length outcomes ≡ length link.asked = ap length table.each ∙ below_count _ (length link.asked) in
    let before : number < length earlier = omega (arith, less, keys, count) in
    let begins = begins_with has.front has.behind has.payloads table.payloads table.tail some one goes has.frames
    (subst (λ (b : List ℕ). IsFrames b table.payloads table.tail) has.whole table.frames) in
    let found = reply_of (length earlier) number (length link.asked) has.payloads begins.0 table.payloads (is_length table.tail) link.stop link.write_failed before
    (omega (arith, less, count)) (replied_among (length earlier) number has.payloads before has.replies) begins.1 in (
      found.0,
      ap (λ (l : List (Option Outcome)). slice_get l number) table.each ∙ below_at _ (length link.asked) number (omega (arith, less, count)) ∙ ap Some found.1,
      found.2,
    )
