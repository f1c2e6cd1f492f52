-- Which process may be asked again.
use Rattle.std.proofs.Common.{◌≡◌, ℕ, suc, ◌+◌, ◌≤◌, Bool, true, false, Option, Some, List, [], ◌∷◌, ◌++◌, length, flat_map, refl, sym, ap, subst, ◌∙◌, length-append, arith}
use Rattle.std.specs.List.{Contains}
use Rattle.std.proofs.lemmas.List.Elements.{Contains-append_left, Contains-append_right}
use Rattle.plugin_frames.specs.Frames.{Tail, Rest, IsFrames}
use Rattle.plugin_frames.specs.Laws.{EachListIsFrames, OneReading, FramesGoOn}
use Rattle.plugin_messages.specs.PluginOf.{plugin_message_of}
use Rattle.plugin_messages.specs.declared.message.Outcome.{Outcome}
use Rattle.link_driver.specs.Links.{KeySteps, LinkSeen, RunningSeen, Gains, Holds, IsGiven, IsWritten}
use Rattle.link_driver.specs.LinkTable.{reply_outcome, is_result, Look}
use Rattle.link_driver.specs.Lists.{Each}
use Rattle.link_driver.specs.Driven.{DriverSeen, HasGreeted, AreReplies}
use Rattle.link_driver.specs.Awaiting.{Replies, HasNoReply, NeverReplies}
use Rattle.link_driver.specs.Asking.{IsRetired, HasEnded, IsAskedOf, goes_on, ends}
use Rattle.link_driver.specs.Told.{driver_keys, HasTable}
use Rattle.link_driver.specs.Kept.{GaveItsReplies, KeepsWhatReplies}
use Rattle.link_driver.proofs.Written.{gains_more}
use Rattle.link_driver.proofs.Turns.{each_more}
use Rattle.link_driver.proofs.Tables.{in_links}

-- a process was asked for one more key, and then retired
pub ended_of : (link then : RunningSeen) (closed : LinkSeen) (key : KeySteps) (sent : List ℕ) (first write_failed : Bool) → then.module_name ≡ link.module_name
    → then.asked ≡ link.asked ++ key ∷ [] → Gains link.reader link.got then.reader then.got
    → ((bytes : List ℕ) → Holds bytes link.writer → IsGiven bytes sent write_failed then.writer)
    → (write_failed ≡ false → NeverReplies first link.got then.got) → IsRetired then write_failed closed → HasEnded link key sent first closed
ended_of link then closed key sent first write_failed same asked gains given never retired = record {
  module_name = retired.module_name ∙ same;
  asked = retired.asked ∙ asked;
  written = λ bytes holds.
      subst (λ (f : Bool). IsWritten bytes sent f closed.writer) (sym retired.failed) (retired.written bytes sent (given bytes holds));
  stopped = retired.stopped;
  gains = gains_more _ _ _ _ _ _ gains retired.gains;
  unanswered = λ whole said replies.
      never (sym retired.failed ∙ whole) retired.gains.gained said (subst (λ (b : List ℕ). Replies first said link.got b) retired.gains.appended replies);
}

-- a key that was not asked

none_asked : (key : KeySteps) (links : List LinkSeen) → ¬ Contains (flat_map (λ (link : LinkSeen). link.asked) links) key → KeepsWhatReplies key links
none_asked key [] not_in = tt
none_asked key (link ∷ links) not_in =
    let keys : List LinkSeen → List KeySteps = flat_map (λ (link : LinkSeen). link.asked) in (
      λ is_in gave. not_in (Contains-append_left link.asked (keys links) key is_in),
      none_asked key links (λ is_in. not_in (Contains-append_right link.asked (keys links) key is_in)),
    )

pub keeps_links : (key : KeySteps) (driver : DriverSeen) → ¬ Contains (driver_keys driver) key → KeepsWhatReplies key driver.links
keeps_links key driver not_in = none_asked key driver.links (λ is_in. not_in (in_links _ _ _ key is_in))

-- a process that was asked for one more key and gave its replies gave the reply

last_of : {A : Type 0} (P : A → Type 0) (xs : List A) (x : A) → Each P (xs ++ x ∷ []) → P x
last_of P [] x each = each.0
last_of P (y ∷ ys) x each = last_of P ys x each.1

single : (payloads : List (List ℕ)) → length payloads ≡ 1 → (payload : List ℕ) × (payloads ≡ payload ∷ [])
single [] is = absurd (omega (arith, is))
single (payload ∷ []) is = (payload, refl)
single (payload ∷ other ∷ more) is = absurd (omega (arith, is))

last_replies : (count : ℕ) (payloads later all : List (List ℕ)) (reply : List ℕ) → later ≡ reply ∷ [] → all ≡ payloads ++ later → 1 ≤ length payloads
    → HasGreeted count all → is_result reply ≡ true
last_replies count [] later all reply is whole some greeted = absurd (omega (arith, some))
last_replies count (first ∷ more) later all reply is whole some greeted =
    let order : greeted.greeting ∷ greeted.replies ≡ first ∷ (more ++ later) = sym greeted.in_order ∙ whole in
    let behind : greeted.replies ≡ more ++ reply ∷ [] = cc in
    last_of (λ (r : List ℕ). is_result r ≡ true) more reply (subst (λ (l : List (List ℕ)). Each (λ (r : List ℕ). is_result r ≡ true) l) behind greeted.each)

came_once : (old new gained reply : List ℕ) (later : List (List ℕ)) (tail : Tail) → new ≡ old ++ gained → IsFrames gained later tail → later ≡ reply ∷ [] → Rest [] ≡ tail
    → is_result reply ≡ true → Replies false (reply_outcome (plugin_message_of reply)) old new
came_once old new gained reply later tail grows frames is none replies = record {
  gained = gained;
  payloads = reply ∷ [];
  appended = grows;
  read = subst (λ (t : Tail). IsFrames gained (reply ∷ []) t) (sym none) (subst (λ (p : List (List ℕ)). IsFrames gained p tail) is frames);
  awaited_so = (reply, refl, record { replies = replies; says = refl });
}

gave_again : (link : RunningSeen) (closed : LinkSeen) (key : KeySteps) (payloads : List (List ℕ)) (gained : List ℕ) → EachListIsFrames → OneReading → FramesGoOn
    → IsFrames link.got payloads (Rest []) → length payloads ≡ length link.asked + 1 → closed.asked ≡ link.asked ++ key ∷ [] → closed.got ≡ link.got ++ gained
    → GaveItsReplies closed → ¬ HasNoReply false link.got closed.got
gave_again link closed key payloads gained some one goes frames all asked grows gave none =
    let count : length closed.asked ≡ suc (length link.asked) = omega (arith, ap length asked, length-append link.asked (key ∷ [])) in
    let next = some gained in
    let same = one closed.got gave.payloads (payloads ++ next.0) (Rest []) next.1 gave.frames
    (subst (λ (b : List ℕ). IsFrames b (payloads ++ next.0) next.1) (sym grows) (goes link.got gained [] payloads next.0 next.1 frames next.2)) in
    let reply = single next.0 (omega (arith, gave.all, count, all, ap length same.0, length-append payloads next.0)) in
    let greeted : HasGreeted (suc (length link.asked)) gave.payloads = subst (λ (n : ℕ). AreReplies n gave.payloads) count gave.replies in
    none (reply_outcome (plugin_message_of reply.0))
    (came_once link.got closed.got gained reply.0 next.0 next.1 grows next.2 reply.1 same.1
    (last_replies (suc (length link.asked)) payloads next.0 gave.payloads reply.0 reply.1 same.0 (omega (arith, all)) greeted))

came_first : (old new gained reply : List ℕ) (payloads : List (List ℕ)) → old ≡ [] → new ≡ old ++ gained → IsFrames new payloads (Rest [])
    → (greeted : HasGreeted 1 payloads) → greeted.replies ≡ reply ∷ [] → Replies true (reply_outcome (plugin_message_of reply)) old new
came_first old new gained reply payloads none grows frames greeted is = record {
  gained = gained;
  payloads = payloads;
  appended = grows;
  read = subst (λ (b : List ℕ). IsFrames b payloads (Rest [])) (grows ∙ ap (λ (b : List ℕ). b ++ gained) none) frames;
  awaited_so = (
    greeted.greeting,
    reply,
    greeted.in_order ∙ ap (λ (l : List (List ℕ)). greeted.greeting ∷ l) is,
    greeted.greets,
    record { replies = (subst (λ (l : List (List ℕ)). Each (λ (r : List ℕ). is_result r ≡ true) l) is greeted.each).0; says = refl },
  );
}

gave_first : (link : RunningSeen) (closed : LinkSeen) (key : KeySteps) (gained : List ℕ) → link.asked ≡ [] → link.got ≡ [] → closed.asked ≡ link.asked ++ key ∷ []
    → closed.got ≡ link.got ++ gained → GaveItsReplies closed → ¬ HasNoReply true link.got closed.got
gave_first link closed key gained none_asked none_got asked grows gave none =
    let count : length closed.asked ≡ 1 = ap length (asked ∙ ap (λ (l : List KeySteps). l ++ key ∷ []) none_asked) in
    let greeted : HasGreeted 1 gave.payloads = subst (λ (n : ℕ). AreReplies n gave.payloads) count gave.replies in
    let reply = single greeted.replies (omega (arith, gave.all, count, ap length greeted.in_order)) in
    none (reply_outcome (plugin_message_of reply.0)) (came_first link.got closed.got gained reply.0 gave.payloads none_got grows gave.frames greeted reply.1)

-- one more request of a process

abbrev keeps : KeySteps → LinkSeen → Type 0
keeps key link = Contains link.asked key → ¬ GaveItsReplies link

pub asked_again_keeps : (table : Look) (done next : DriverSeen) (link : RunningSeen) (key : KeySteps) (sent : List ℕ) (o : Option Outcome) → EachListIsFrames → OneReading
    → FramesGoOn → HasTable table (record done { running = Some link }) → ¬ Contains (driver_keys (record done { running = Some link })) key
    → IsAskedOf done link key sent false o next → KeepsWhatReplies key next.links
asked_again_keeps table done next link key sent o some one goes has not_in (goes_on answered said answers says same) =
    subst (λ (d : DriverSeen). KeepsWhatReplies key d.links) (sym same) (keeps_links key (record done { running = Some link }) not_in)
asked_again_keeps table done next link key sent o some one goes has not_in (ends closed ended last same) =
    subst (λ (d : DriverSeen). KeepsWhatReplies key d.links) (sym same)
    (each_more (keeps key) done.links closed (keeps_links key (record done { running = Some link }) not_in)
    (λ is_in gave. gave_again link closed key has.running_tells.payloads ended.gains.gained some one goes has.running_tells.frames has.running_tells.all ended.asked
    ended.gains.appended gave (ended.unanswered gave.written)))

pub asked_first_keeps : (done next : DriverSeen) (link : RunningSeen) (key : KeySteps) (sent : List ℕ) (o : Option Outcome) → link.asked ≡ [] → link.got ≡ []
    → ¬ Contains (driver_keys done) key → IsAskedOf done link key sent true o next → KeepsWhatReplies key next.links
asked_first_keeps done next link key sent o asked got not_in (goes_on answered said answers says same) =
    subst (λ (d : DriverSeen). KeepsWhatReplies key d.links) (sym same) (keeps_links key done not_in)
asked_first_keeps done next link key sent o asked got not_in (ends closed ended last same) =
    subst (λ (d : DriverSeen). KeepsWhatReplies key d.links) (sym same)
    (each_more (keeps key) done.links closed (keeps_links key done not_in)
    (λ is_in gave. gave_first link closed key ended.gains.gained asked got ended.asked ended.gains.appended gave (ended.unanswered gave.written)))
