-- The table so far, from one request to the next.
use Rattle.std.proofs.Common.{◌≡◌, ℕ, zero, suc, ◌+◌, ◌-◌, ◌<◌, ◌⊎◌, ◌==◌, ◌&&◌, nat_le, Bool, true, false, if◌then◌else◌, Option, Some, None, option_map, List, [], ◌∷◌, ◌++◌, length, map, flat_map, slice_get, refl, sym, ap, ap₂, subst, ◌∙◌, append-nil, length-append, arith, inl, inr}
use Rattle.std.specs.Bool.{Decides}
use Rattle.std.specs.List.{Contains}
use Rattle.std.proofs.lemmas.Bool.Decides.{nat_tests}
use Rattle.std.proofs.lemmas.List.{map-append}
use Rattle.std.proofs.lemmas.List.Concat.{flat_map-append}
use Rattle.std.proofs.lemmas.List.Elements.{Contains-append_left, Contains-append_right, Contains-append_cases, Contains-push, Contains-push_cases}
use Rattle.plugin_frames.specs.Frames.{Rest, IsFrames}
use Rattle.plugin_frames.specs.Laws.{EachListIsFrames, OneReading, FramesGoOn, NoFrames}
use Rattle.plugin_messages.specs.PluginOf.{plugin_message_of}
use Rattle.plugin_messages.specs.declared.message.Outcome.{Outcome}
use Rattle.link_driver.specs.declared.link.TheConstants.{MOST_BYTES}
use Rattle.link_driver.specs.declared.link.Stop.{Stop}
use Rattle.link_driver.specs.declared.link.Stop.TheVariants as stop
use Rattle.link_driver.specs.declared.link.Unstarted.{Unstarted}
use Rattle.link_driver.specs.Links.{KeySteps, LinkSeen, RunningSeen, StopHasCause}
use Rattle.link_driver.specs.LinkTable.{no_reply, reply_outcome, is_length, greets_badly, is_next, replied, outcome_at, each_below, Look, TellsLink, TellsFailure, asked_keys, IsRunTable}
use Rattle.link_driver.specs.Lists.{Each}
use Rattle.link_driver.specs.Awaiting.{Replies}
use Rattle.link_driver.specs.Asking.{IsRetired, HasAnswered, HasEnded, IsLastOf, IsAskedOf, goes_on, ends}
use Rattle.link_driver.specs.Driven.{DriverSeen, IsSpent, IsDriven, bytes_of, running_bytes}
use Rattle.link_driver.specs.Requests.{Wanted}
use Rattle.swift_base.specs.Outside.{StarterSeen}
use Rattle.link_driver.specs.Told.{payload_outcome, TellsRunning, TellsAny, running_keys, driver_keys, HasTable, IsPut}
use Rattle.link_driver.proofs.Turns.{each_more, bytes_more}
use Rattle.link_driver.proofs.Replied.{begins_with, get_front, get_last, neither, and_no, not_last, greeting_stands, greets_same}

-- outcomes by payloads

replied_some : (payloads : List (List ℕ)) (place : ℕ) (too_long : Bool) (stop : Stop) → place < length payloads
    → replied (slice_get payloads place) too_long stop ≡ option_map (λ payload. reply_outcome (plugin_message_of payload)) (slice_get payloads place)
replied_some [] place too_long stop less = absurd (omega (arith, less))
replied_some (payload ∷ payloads) zero too_long stop less = refl
replied_some (payload ∷ payloads) (suc place) too_long stop less = replied_some payloads place too_long stop (omega (arith, less))

-- what was answered so far is the outcome by all payloads too
answered_at : (count : ℕ) (all payloads more : List (List ℕ)) (too_long : Bool) (stop : Stop) (write_failed : Bool) (number : ℕ)
    → all ≡ payloads ++ more → (write_failed && (number + 1 == count)) ≡ false → greets_badly payloads ≡ false → number + 1 < length payloads
    → outcome_at count all too_long stop write_failed number ≡ payload_outcome payloads number
unfolding outcome_at
answered_at count all payloads more too_long stop write_failed number are written good less =
    neither (write_failed && (number + 1 == count)) ((number == 0) && greets_badly all) _ _ _
    written (ap (λ b. (number == 0) && b) (ap greets_badly are ∙ greets_same payloads more (omega (arith, less)) ∙ good) ∙ and_no (number == 0))
    ∙ ap (λ (o : Option (List ℕ)). replied o (too_long && is_next number all) stop) (ap (λ (p : List (List ℕ)). slice_get p (number + 1)) are ∙ get_front payloads more (number + 1) less)
    ∙ replied_some payloads (number + 1) (too_long && is_next number all) stop less

below_same : {A : Type 0} (f g : ℕ → A) (count : ℕ) → ((number : ℕ) → number < count → f number ≡ g number) → each_below f count ≡ each_below g count
below_same f g zero same = refl
below_same f g (suc n) same = ap₂ (λ l x. l ++ x ∷ []) (below_same f g n (λ i less. same i (omega (arith, less)))) (same n (omega arith))

undecided : (p q : Bool) (x y : Outcome) (z : Option Outcome) → (if p then Some x else if q then Some y else z) ≡ None → z ≡ None
undecided true q x y z is = absurd (cc)
undecided false true x y z is = absurd (cc)
undecided false false x y z is = is

replied_none : (payload : Option (List ℕ)) (too_long : Bool) (how : Stop) → replied payload too_long how ≡ None → how ≡ stop.Overrun
replied_none (Some payload) too_long how is = absurd (cc)
replied_none None true how is = absurd (cc)
replied_none None false stop.Ended is = absurd (cc)
replied_none None false stop.Failed is = absurd (cc)
replied_none None false stop.Overrun is = refl

none_overrun : (count : ℕ) (payloads : List (List ℕ)) (too_long : Bool) (how : Stop) (write_failed : Bool) (number : ℕ)
    → outcome_at count payloads too_long how write_failed number ≡ None → how ≡ stop.Overrun
unfolding outcome_at
none_overrun count payloads too_long how write_failed number is =
    replied_none (slice_get payloads (number + 1)) (too_long && is_next number payloads) how
    (undecided (write_failed && (number + 1 == count)) ((number == 0) && greets_badly payloads) no_reply no_reply _ is)

-- one more key of a table

put_elsewhere : (table after : Look) (key : KeySteps) (o : Option Outcome) → IsPut table key o after → (k : KeySteps) → ¬ (k ≡ key) → after k ≡ table k
put_elsewhere table after key None put k other = put k
put_elsewhere table after key (Some o) put k other = put.1 k other

put_here : (table after : Look) (key : KeySteps) (o : Option Outcome) → IsPut table key o after → table key ≡ None → after key ≡ o
put_here table after key None put none = put key ∙ none
put_here table after key (Some o) put none = put.0

map_same : (table after : Look) (keys : List KeySteps) → ((k : KeySteps) → Contains keys k → after k ≡ table k) → map after keys ≡ map table keys
map_same table after [] same = refl
map_same table after (key ∷ keys) same =
    ap₂ (λ (o : Option Outcome) (l : List (Option Outcome)). o ∷ l) (same key (Contains-append_left (key ∷ []) keys key (Contains-push [] key)))
    (map_same table after keys (λ k is_in. same k (Contains-append_right (key ∷ []) keys k is_in)))

abbrev links_keys : List LinkSeen → List KeySteps
links_keys links = flat_map (λ link. link.asked) links

abbrev failed_keys : List Unstarted → List KeySteps
failed_keys unstarted = map (λ entry. entry.key) unstarted

links_stay : (table after : Look) (links : List LinkSeen) → ((k : KeySteps) → Contains (links_keys links) k → after k ≡ table k)
    → Each (TellsLink table) links → Each (TellsLink after) links
links_stay table after [] same each = tt
links_stay table after (link ∷ links) same (first, each) = (
  (first.0, first.1, map_same table after link.asked (λ k is_in. same k (Contains-append_left link.asked (links_keys links) k is_in)) ∙ first.2),
  links_stay table after links (λ k is_in. same k (Contains-append_right link.asked (links_keys links) k is_in)) each,
)

failures_stay : (table after : Look) (unstarted : List Unstarted) → ((k : KeySteps) → Contains (failed_keys unstarted) k → after k ≡ table k)
    → Each (TellsFailure table) unstarted → Each (TellsFailure after) unstarted
failures_stay table after [] same each = tt
failures_stay table after (entry ∷ entries) same (first, each) = (
  same entry.key (Contains-append_left (entry.key ∷ []) (failed_keys entries) entry.key (Contains-push [] entry.key)) ∙ first,
  failures_stay table after entries (λ k is_in. same k (Contains-append_right (entry.key ∷ []) (failed_keys entries) k is_in)) each,
)

running_stays : (table after : Look) (running : Option RunningSeen) → ((k : KeySteps) → Contains (running_keys running) k → after k ≡ table k)
    → TellsAny table running → TellsAny after running
running_stays table after None same tells = tt
running_stays table after (Some link) same told = record {
  payloads = told.payloads;
  frames = told.frames;
  greets = told.greets;
  all = told.all;
  tells = map_same table after link.asked same ∙ told.tells;
}

-- keys

pub in_links : (links failed running : List KeySteps) (k : KeySteps) → Contains links k → Contains ((links ++ failed) ++ running) k
in_links links failed running k is_in = Contains-append_left (links ++ failed) running k (Contains-append_left links failed k is_in)

in_failed : (links failed running : List KeySteps) (k : KeySteps) → Contains failed k → Contains ((links ++ failed) ++ running) k
in_failed links failed running k is_in = Contains-append_left (links ++ failed) running k (Contains-append_right links failed k is_in)

in_running : (links failed running : List KeySteps) (k : KeySteps) → Contains running k → Contains ((links ++ failed) ++ running) k
in_running links failed running k is_in = Contains-append_right (links ++ failed) running k is_in

record Grows (old new : List KeySteps) (key : KeySteps) : Type 0 where
  stays : (k : KeySteps) → Contains old k → Contains new k
  here : Contains new key
  cases : (k : KeySteps) → Contains new k → Contains old k ⊎ (key ≡ k)

record Moves (old new : List KeySteps) : Type 0 where
  there : (k : KeySteps) → Contains old k → Contains new k
  back : (k : KeySteps) → Contains new k → Contains old k

grows_at : (front keys : List KeySteps) (key : KeySteps) → Grows (front ++ keys) (front ++ (keys ++ key ∷ [])) key
grows_at front keys key = record {
  stays = λ k is_in. elim (Contains-append_cases front keys k is_in) [
    | inl before ↦ Contains-append_left front (keys ++ key ∷ []) k before
    | inr among ↦ Contains-append_right front (keys ++ key ∷ []) k (Contains-append_left keys (key ∷ []) k among)
  ];
  here = Contains-append_right front (keys ++ key ∷ []) key (Contains-push keys key);
  cases = λ k is_in. elim (Contains-append_cases front (keys ++ key ∷ []) k is_in) [
    | inl before ↦ inl (Contains-append_left front keys k before)
    | inr among ↦ elim (Contains-push_cases keys key k among) [
      | inl old ↦ inl (Contains-append_right front keys k old)
      | inr same ↦ inr same
    ]
  ];
}

moves_in : (links failed keys : List KeySteps) → Moves ((links ++ failed) ++ keys) (((links ++ keys) ++ failed) ++ [])
moves_in links failed keys = record {
  there = λ k is_in. elim (Contains-append_cases (links ++ failed) keys k is_in) [
    | inl before ↦ elim (Contains-append_cases links failed k before) [
      | inl one ↦ in_links (links ++ keys) failed [] k (Contains-append_left links keys k one)
      | inr other ↦ in_failed (links ++ keys) failed [] k other
    ]
    | inr among ↦ in_links (links ++ keys) failed [] k (Contains-append_right links keys k among)
  ];
  back = λ k is_in. elim (Contains-append_cases (links ++ keys) failed k (subst (λ (l : List KeySteps). Contains l k) (append-nil ((links ++ keys) ++ failed)) is_in)) [
    | inl before ↦ elim (Contains-append_cases links keys k before) [
      | inl one ↦ in_links links failed keys k one
      | inr other ↦ in_running links failed keys k other
    ]
    | inr among ↦ in_failed links failed keys k among
  ];
}

grows_moves : (old between new : List KeySteps) (key : KeySteps) → Grows old between key → Moves between new → Grows old new key
grows_moves old between new key grows moves = record {
  stays = λ k is_in. moves.there k (grows.stays k is_in);
  here = moves.there key grows.here;
  cases = λ k is_in. grows.cases k (moves.back k is_in);
}

links_keys_more : (links : List LinkSeen) (closed : LinkSeen) → links_keys (links ++ closed ∷ []) ≡ links_keys links ++ closed.asked
links_keys_more links closed =
    flat_map-append (λ (link : LinkSeen). link.asked) links (closed ∷ []) ∙ ap (λ (l : List KeySteps). links_keys links ++ l) (append-nil closed.asked)

-- the keys of the process that runs stand among those of the others once it is closed
moves_closed : (links : List LinkSeen) (failed keys : List KeySteps) (closed : LinkSeen) → closed.asked ≡ keys
    → Moves ((links_keys links ++ failed) ++ keys) ((links_keys (links ++ closed ∷ []) ++ failed) ++ [])
moves_closed links failed keys closed same =
    subst (λ (l : List KeySteps). Moves ((links_keys links ++ failed) ++ keys) ((l ++ failed) ++ []))
    (sym (links_keys_more links closed ∙ ap (λ (l : List KeySteps). links_keys links ++ l) same)) (moves_in (links_keys links) failed keys)

-- what is known of a driver before it is asked for a key that has no outcome
record IsPrepared (table : Look) (done : DriverSeen) (keys : List KeySteps) : Type 0 where
  links_tell : Each (TellsLink table) done.links
  failures_tell : Each (TellsFailure table) done.unstarted
  no_others : (k : KeySteps) → ¬ Contains (asked_keys done.links done.unstarted ++ keys) k → table k ≡ None
  all : (k : KeySteps) → Contains (asked_keys done.links done.unstarted ++ keys) k → ¬ (table k ≡ None)
  room : done.room ≡ (MOST_BYTES + 1) - bytes_of done.links

kept : (table after : Look) (key : KeySteps) (o : Option Outcome) (keys : List KeySteps) → ((k : KeySteps) → Contains keys k → ¬ (table k ≡ None))
    → table key ≡ None → IsPut table key o after → (k : KeySteps) → Contains keys k → after k ≡ table k
kept table after key o keys all none put k is_in = put_elsewhere table after key o put k (λ same. all k is_in (ap table same ∙ none))

no_others_after : (table after : Look) (key : KeySteps) (o : Option Outcome) (old new : List KeySteps) → Grows old new key
    → ((k : KeySteps) → ¬ Contains old k → table k ≡ None) → IsPut table key o after → (k : KeySteps) → ¬ Contains new k → after k ≡ None
no_others_after table after key o old new grows none_before put k not_in =
    put_elsewhere table after key o put k (λ same. not_in (subst (λ (x : KeySteps). Contains new x) (sym same) grows.here))
    ∙ none_before k (λ is_in. not_in (grows.stays k is_in))

some_after : (after : Look) (key k : KeySteps) (o : Outcome) → after key ≡ Some o → key ≡ k → ¬ (after k ≡ None)
some_after after key k o is same none =
    let both : Some o ≡ None = sym is ∙ ap after same ∙ none in
    absurd (cc)

all_after : (table after : Look) (key : KeySteps) (o : Outcome) (old new : List KeySteps) → Grows old new key → ((k : KeySteps) → Contains old k → ¬ (table k ≡ None))
    → table key ≡ None → IsPut table key (Some o) after → (k : KeySteps) → Contains new k → ¬ (after k ≡ None)
all_after table after key o old new grows all none put k is_in = elim (grows.cases k is_in) [
  | inl before ↦ λ gone. all k before (sym (kept table after key (Some o) old all none put k before) ∙ gone)
  | inr same ↦ some_after after key k o put.0 same
]

decided_after : (table after : Look) (key : KeySteps) (o : Option Outcome) (old new : List KeySteps) (next : DriverSeen) → (o ≡ None → IsSpent next) → Grows old new key
    → ((k : KeySteps) → Contains old k → ¬ (table k ≡ None)) → table key ≡ None → IsPut table key o after
    → IsSpent next ⊎ ((k : KeySteps) → Contains new k → ¬ (after k ≡ None))
decided_after table after key None old new next spent grows all none put = inl (spent refl)
decided_after table after key (Some o) old new next spent grows all none put = inr (all_after table after key o old new grows all none put)

-- what was asked of a process before, with its outcomes
record TellsEarlier (table : Look) (link : RunningSeen) : Type 0 where
  payloads : List (List ℕ)
  frames : IsFrames link.got payloads (Rest [])
  tells : map table link.asked ≡ each_below (payload_outcome payloads) (length link.asked)
  each : (number : ℕ) → number < length link.asked → (greets_badly payloads ≡ false) × (number + 1 < length payloads)

earlier_of : (table : Look) (link : RunningSeen) → TellsRunning table link → TellsEarlier table link
earlier_of table link told = record {
  payloads = told.payloads;
  frames = told.frames;
  tells = told.tells;
  each = λ number less. (told.greets, omega (arith, less, told.all));
}

earlier_fresh : (table : Look) (link : RunningSeen) → NoFrames → link.asked ≡ [] → link.got ≡ [] → TellsEarlier table link
earlier_fresh table link none asked got = record {
  payloads = [];
  frames = subst (λ (b : List ℕ). IsFrames b [] (Rest [])) (sym got) none;
  tells = subst (λ (k : List KeySteps). map table k ≡ each_below (payload_outcome []) (length k)) (sym asked) refl;
  each = λ number less. absurd (omega (arith, less, ap length asked));
}

-- the process that runs is retired
closes : (table : Look) (link : RunningSeen) (closed : LinkSeen) (gained : List ℕ) → EachListIsFrames → OneReading → FramesGoOn → closed.asked ≡ link.asked
    → closed.write_failed ≡ false → closed.got ≡ link.got ++ gained → TellsEarlier table link → TellsLink table closed
closes table link closed gained some one goes asked written grows told =
    let whole = some closed.got in
    let begins = begins_with link.got gained told.payloads whole.0 whole.1 some one goes told.frames (subst (λ (b : List ℕ). IsFrames b whole.0 whole.1) grows whole.2) in
    let at : ℕ → Option Outcome = outcome_at (length closed.asked) whole.0 (is_length whole.1) closed.stop closed.write_failed in (
      each_below at (length closed.asked),
      record { payloads = whole.0; tail = whole.1; frames = whole.2; each = refl },
      ap (map table) asked ∙ told.tells
          ∙ below_same (payload_outcome told.payloads) at (length link.asked)
          (λ number less. sym (answered_at (length closed.asked) whole.0 told.payloads begins.0 (is_length whole.1) closed.stop closed.write_failed number begins.1
          (ap (λ (b : Bool). b && (number + 1 == length closed.asked)) written) (told.each number less).0 (told.each number less).1))
          ∙ ap (λ (k : List KeySteps). each_below at (length k)) (sym asked),
    )

-- the process was asked for one more key, and then closed
closes_with : (after : Look) (link : RunningSeen) (closed : LinkSeen) (key : KeySteps) (o : Option Outcome) (gained : List ℕ) → EachListIsFrames → OneReading → FramesGoOn
    → closed.asked ≡ link.asked ++ key ∷ [] → closed.got ≡ link.got ++ gained → IsLastOf closed o → TellsEarlier after link → after key ≡ o → TellsLink after closed
closes_with after link closed key o gained some one goes asked grows last told here =
    let begins = begins_with link.got gained told.payloads last.payloads last.tail some one goes told.frames
    (subst (λ (b : List ℕ). IsFrames b last.payloads last.tail) grows last.frames) in
    let count : length closed.asked ≡ suc (length link.asked) = omega (arith, ap length asked, length-append link.asked (key ∷ [])) in
    let before : length closed.asked - 1 ≡ length link.asked = omega (arith, count) in
    let at : ℕ → Option Outcome = outcome_at (length closed.asked) last.payloads (is_length last.tail) closed.stop closed.write_failed in (
      each_below at (length closed.asked),
      record { payloads = last.payloads; tail = last.tail; frames = last.frames; each = refl },
      ap (map after) asked ∙ map-append after link.asked (key ∷ [])
          ∙ ap₂ (λ (l : List (Option Outcome)) (x : Option Outcome). l ++ x ∷ [])
          (told.tells
          ∙ below_same (payload_outcome told.payloads) at (length link.asked)
          (λ number less. sym (answered_at (length closed.asked) last.payloads told.payloads begins.0 (is_length last.tail) closed.stop closed.write_failed number begins.1
          (ap (λ (b : Bool). closed.write_failed && b) (not_last number (length closed.asked) (omega (arith, less, count))) ∙ and_no closed.write_failed)
          (told.each number less).0 (told.each number less).1)))
          (here ∙ last.is_last ∙ ap at before)
          ∙ ap (each_below at) (sym count),
    )

-- a process was asked for its first key, and answered it
begins_to_tell : (after : Look) (link next : RunningSeen) (key : KeySteps) (said : Outcome) → link.asked ≡ [] → link.got ≡ [] → next.asked ≡ link.asked ++ key ∷ []
    → Replies true said link.got next.got → after key ≡ Some said → TellsRunning after next
begins_to_tell after link next key said none_asked none_got asked replies here =
    let awaited = replies.awaited_so in
    let keys : next.asked ≡ key ∷ [] = asked ∙ ap (λ (l : List KeySteps). l ++ key ∷ []) none_asked in
    record {
      payloads = awaited.0 ∷ awaited.1 ∷ [];
      frames =
          subst (λ (b : List ℕ). IsFrames b (awaited.0 ∷ awaited.1 ∷ []) (Rest [])) (sym (replies.appended ∙ ap (λ (b : List ℕ). b ++ replies.gained) none_got))
          (subst (λ (p : List (List ℕ)). IsFrames replies.gained p (Rest [])) awaited.2 replies.read);
      greets = greeting_stands awaited.0 (awaited.0 ∷ awaited.1 ∷ []) (awaited.1 ∷ []) refl awaited.3;
      all = omega (arith, ap length keys);
      tells =
          subst (λ (k : List KeySteps). map after k ≡ each_below (payload_outcome (awaited.0 ∷ awaited.1 ∷ [])) (length k)) (sym keys)
          (ap (λ (o : Option Outcome). o ∷ []) (here ∙ ap Some awaited.4.says));
    }

-- a process was asked for one more key, and answered it
tells_on : (table after : Look) (link next : RunningSeen) (key : KeySteps) (said : Outcome) → FramesGoOn → next.asked ≡ link.asked ++ key ∷ []
    → Replies false said link.got next.got → after key ≡ Some said → map after link.asked ≡ map table link.asked → TellsRunning table link → TellsRunning after next
tells_on table after link next key said goes asked replies here same told =
    let awaited = replies.awaited_so in
    let payloads : List (List ℕ) = told.payloads ++ awaited.0 ∷ [] in
    let count : length next.asked ≡ suc (length link.asked) = omega (arith, ap length asked, length-append link.asked (key ∷ [])) in
    record {
      payloads = payloads;
      frames =
          subst (λ (b : List ℕ). IsFrames b payloads (Rest [])) (sym replies.appended)
          (goes link.got replies.gained [] told.payloads (awaited.0 ∷ []) (Rest []) told.frames
          (subst (λ (p : List (List ℕ)). IsFrames replies.gained p (Rest [])) awaited.1 replies.read));
      greets = greets_same told.payloads (awaited.0 ∷ []) (omega (arith, told.all)) ∙ told.greets;
      all = omega (arith, count, told.all, length-append told.payloads (awaited.0 ∷ []));
      tells =
          ap (map after) asked ∙ map-append after link.asked (key ∷ [])
          ∙ ap₂ (λ (l : List (Option Outcome)) (x : Option Outcome). l ++ x ∷ [])
          (same ∙ told.tells
          ∙ below_same (payload_outcome told.payloads) (payload_outcome payloads) (length link.asked)
          (λ number less. ap (option_map (λ payload. reply_outcome (plugin_message_of payload)))
          (sym (get_front told.payloads (awaited.0 ∷ []) (number + 1) (omega (arith, less, told.all))))))
          (here ∙ ap Some awaited.2.says
          ∙ ap (option_map (λ payload. reply_outcome (plugin_message_of payload))) (sym (get_last told.payloads awaited.0 (length link.asked + 1) (sym told.all))))
          ∙ ap (each_below (payload_outcome payloads)) (sym count);
    }

not_spent : (driver : DriverSeen) → driver.room ≡ (MOST_BYTES + 1) - bytes_of driver.links → nat_le driver.room (running_bytes driver.running) ≡ false → ¬ IsSpent driver
not_spent driver room some over = absurd (grind (arith, nat_tests, over, some, room))

all_known : (table : Look) (driver : DriverSeen) → HasTable table driver → ¬ IsSpent driver → (k : KeySteps) → Contains (driver_keys driver) k → ¬ (table k ≡ None)
all_known table driver has some = elim has.decided [
  | inl over ↦ absurd (some over)
  | inr all ↦ all
]

room_less : (links : List LinkSeen) (closed : LinkSeen) (room : ℕ) → room ≡ (MOST_BYTES + 1) - bytes_of links
    → room - length closed.got ≡ (MOST_BYTES + 1) - bytes_of (links ++ closed ∷ [])
room_less links closed room is = omega (arith, is, bytes_more links closed)

abbrev with_link : DriverSeen → LinkSeen → DriverSeen
with_link done closed = record done { links = done.links ++ closed ∷ []; room = done.room - length closed.got; running = None }

pub retired_table : (table : Look) (done : DriverSeen) (link : RunningSeen) (closed : LinkSeen) → EachListIsFrames → OneReading → FramesGoOn
    → IsRetired link false closed → HasTable table (record done { running = Some link })
    → HasTable table (record done { links = done.links ++ closed ∷ []; room = done.room - length closed.got; running = None })
retired_table table done link closed some one goes is has =
    let moves = moves_closed done.links (failed_keys done.unstarted) link.asked closed is.asked in
    record {
      links_tell =
          each_more (TellsLink table) done.links closed has.links_tell
          (closes table link closed is.gains.gained some one goes is.asked is.failed is.gains.appended (earlier_of table link has.running_tells));
      failures_tell = has.failures_tell;
      running_tells = tt;
      no_others = λ k not_in. has.no_others k (λ is_in. not_in (moves.there k is_in));
      decided = elim has.decided [
        | inl over ↦ inl (omega (arith, over, bytes_more done.links closed, ap length is.gains.appended, length-append link.got is.gains.gained))
        | inr all ↦ inr (λ k is_in. all k (moves.back k is_in))
      ];
      room = room_less done.links closed done.room has.room;
    }

-- and its keys were asked before
pub retired_keys : (done : DriverSeen) (link : RunningSeen) (closed : LinkSeen) → IsRetired link false closed → (key : KeySteps)
    → Contains (driver_keys (record done { links = done.links ++ closed ∷ []; room = done.room - length closed.got; running = None })) key
    → Contains (driver_keys (record done { running = Some link })) key
retired_keys done link closed is key is_in = (moves_closed done.links (failed_keys done.unstarted) link.asked closed is.asked).back key is_in

ended_spent : (done : DriverSeen) (closed : LinkSeen) (o : Option Outcome) → StopHasCause closed.reader (length closed.got) closed.stop → IsLastOf closed o
    → o ≡ None → IsSpent (with_link done closed)
ended_spent done closed o stopped last none =
    let how : closed.stop ≡ stop.Overrun = none_overrun _ _ _ _ _ _ (sym last.is_last ∙ none) in
    let over = subst (λ (s : Stop). StopHasCause closed.reader (length closed.got) s) how stopped in
    omega (arith, over.0, bytes_more done.links closed)

earlier_stays : (table after : Look) (link : RunningSeen) → map after link.asked ≡ map table link.asked → TellsEarlier table link → TellsEarlier after link
earlier_stays table after link same told = record { payloads = told.payloads; frames = told.frames; tells = same ∙ told.tells; each = told.each }

ended_table : (table after : Look) (done : DriverSeen) (link : RunningSeen) (closed : LinkSeen) (key : KeySteps) (sent : List ℕ) (first : Bool) (o : Option Outcome)
    → EachListIsFrames → OneReading → FramesGoOn → IsPrepared table done link.asked → TellsEarlier table link → HasEnded link key sent first closed → IsLastOf closed o
    → table key ≡ None → IsPut table key o after → HasTable after (with_link done closed)
ended_table table after done link closed key sent first o some one goes is told ended last none put =
    let links = links_keys done.links in
    let failed = failed_keys done.unstarted in
    let old = (links ++ failed) ++ link.asked in
    let grows : Grows old (driver_keys (with_link done closed)) key =
    grows_moves old ((links ++ failed) ++ (link.asked ++ key ∷ [])) (driver_keys (with_link done closed)) key (grows_at (links ++ failed) link.asked key)
    (moves_closed done.links failed (link.asked ++ key ∷ []) closed ended.asked) in
    let stays = kept table after key o old is.all none put in
    record {
      links_tell =
          each_more (TellsLink after) done.links closed (links_stay table after done.links (λ k is_in. stays k (in_links links failed link.asked k is_in)) is.links_tell)
          (closes_with after link closed key o ended.gains.gained some one goes ended.asked ended.gains.appended last
          (earlier_stays table after link (map_same table after link.asked (λ k is_in. stays k (in_running links failed link.asked k is_in))) told)
          (put_here table after key o put none));
      failures_tell = failures_stay table after done.unstarted (λ k is_in. stays k (in_failed links failed link.asked k is_in)) is.failures_tell;
      running_tells = tt;
      no_others = no_others_after table after key o old (driver_keys (with_link done closed)) grows is.no_others put;
      decided =
          decided_after table after key o old (driver_keys (with_link done closed)) (with_link done closed) (ended_spent done closed o ended.stopped last)
          grows is.all none put;
      room = room_less done.links closed done.room is.room;
    }

answered_table : (table after : Look) (done : DriverSeen) (link answered : RunningSeen) (key : KeySteps) (said : Outcome) → IsPrepared table done link.asked
    → answered.asked ≡ link.asked ++ key ∷ [] → TellsRunning after answered → table key ≡ None → IsPut table key (Some said) after
    → HasTable after (record done { running = Some answered })
answered_table table after done link answered key said is asked told none put =
    let links = links_keys done.links in
    let failed = failed_keys done.unstarted in
    let old = (links ++ failed) ++ link.asked in
    let next : DriverSeen = record done { running = Some answered } in
    let grows : Grows old (driver_keys next) key =
    subst (λ (l : List KeySteps). Grows old ((links ++ failed) ++ l) key) (sym asked) (grows_at (links ++ failed) link.asked key) in
    let stays = kept table after key (Some said) old is.all none put in
    record {
      links_tell = links_stay table after done.links (λ k is_in. stays k (in_links links failed link.asked k is_in)) is.links_tell;
      failures_tell = failures_stay table after done.unstarted (λ k is_in. stays k (in_failed links failed link.asked k is_in)) is.failures_tell;
      running_tells = told;
      no_others = no_others_after table after key (Some said) old (driver_keys next) grows is.no_others put;
      decided = inr (all_after table after key said old (driver_keys next) grows is.all none put);
      room = is.room;
    }

asked_table : (table after : Look) (done next : DriverSeen) (link : RunningSeen) (key : KeySteps) (sent : List ℕ) (first : Bool) (o : Option Outcome)
    → EachListIsFrames → OneReading → FramesGoOn → IsPrepared table done link.asked → TellsEarlier table link
    → ((answered : RunningSeen) (said : Outcome) → HasAnswered link key sent first said answered → after key ≡ Some said → map after link.asked ≡ map table link.asked
    → TellsRunning after answered)
    → IsAskedOf done link key sent first o next → table key ≡ None → IsPut table key o after → HasTable after next
asked_table table after done next link key sent first o some one goes is told on (goes_on answered said has says same) none put =
    let puts : IsPut table key (Some said) after = subst (λ (x : Option Outcome). IsPut table key x after) says put in
    let stays = kept table after key (Some said) (asked_keys done.links done.unstarted ++ link.asked) is.all none puts in
    subst (HasTable after) (sym same)
    (answered_table table after done link answered key said is has.asked
    (on answered said has puts.0
    (map_same table after link.asked (λ k is_in. stays k (in_running (links_keys done.links) (failed_keys done.unstarted) link.asked k is_in))))
    none puts)
asked_table table after done next link key sent first o some one goes is told on (ends closed ended last same) none put =
    subst (HasTable after) (sym same) (ended_table table after done link closed key sent first o some one goes is told ended last none put)

pub asked_spent : (done next : DriverSeen) (link : RunningSeen) (key : KeySteps) (sent : List ℕ) (first : Bool) (o : Option Outcome)
    → IsAskedOf done link key sent first o next → o ≡ None → IsSpent next
asked_spent done next link key sent first o (goes_on answered said has says same) none =
    let both : Some said ≡ None = sym says ∙ none in
    absurd (cc)
asked_spent done next link key sent first o (ends closed ended last same) none = subst IsSpent (sym same) (ended_spent done closed o ended.stopped last none)

pub filled : (table : Look) (driver : DriverSeen) → HasTable table driver → nat_le driver.room (running_bytes driver.running) ≡ true → IsSpent driver
filled table driver has full = grind (arith, nat_tests, full, has.room)

prepared : (table : Look) (done : DriverSeen) (running : Option RunningSeen) → HasTable table (record done { running = running })
    → nat_le done.room (running_bytes running) ≡ false → IsPrepared table done (running_keys running)
prepared table done running has some = record {
  links_tell = has.links_tell;
  failures_tell = has.failures_tell;
  no_others = has.no_others;
  all = all_known table (record done { running = running }) has (not_spent (record done { running = running }) has.room some);
  room = has.room;
}

-- the process that runs is asked once more
pub asked_again_table : (table after : Look) (done next : DriverSeen) (link : RunningSeen) (key : KeySteps) (sent : List ℕ) (o : Option Outcome)
    → EachListIsFrames → OneReading → FramesGoOn → HasTable table (record done { running = Some link }) → nat_le done.room (length link.got) ≡ false
    → IsAskedOf done link key sent false o next → table key ≡ None → IsPut table key o after → HasTable after next
asked_again_table table after done next link key sent o some one goes has room is none put =
    asked_table table after done next link key sent false o some one goes (prepared table done (Some link) has room) (earlier_of table link has.running_tells)
    (λ answered said answers here same. tells_on table after link answered key said goes answers.asked answers.replies here same has.running_tells)
    is none put

-- a process is started, and asked for the first time
pub asked_first_table : (table after : Look) (done next : DriverSeen) (link : RunningSeen) (key : KeySteps) (sent : List ℕ) (o : Option Outcome)
    → EachListIsFrames → OneReading → FramesGoOn → NoFrames → HasTable table (record done { running = None }) → nat_le done.room 0 ≡ false
    → link.asked ≡ [] → link.got ≡ [] → IsAskedOf done link key sent true o next → table key ≡ None → IsPut table key o after → HasTable after next
asked_first_table table after done next link key sent o some one goes nothing has room asked got is none put =
    asked_table table after done next link key sent true o some one goes
    (subst (λ (l : List KeySteps). IsPrepared table done l) (sym asked) (prepared table done None has room)) (earlier_fresh table link nothing asked got)
    (λ answered said answers here same. begins_to_tell after link answered key said asked got answers.asked answers.replies here)
    is none put

failed_more : (unstarted : List Unstarted) (entry : Unstarted) → failed_keys (unstarted ++ entry ∷ []) ≡ failed_keys unstarted ++ entry.key ∷ []
failed_more unstarted entry = map-append (λ (e : Unstarted). e.key) unstarted (entry ∷ [])

grows_failed : (links failed : List KeySteps) (key : KeySteps) → Grows ((links ++ failed) ++ []) ((links ++ (failed ++ key ∷ [])) ++ []) key
grows_failed links failed key =
    subst (λ (l : List KeySteps). Grows l ((links ++ (failed ++ key ∷ [])) ++ []) key) (sym (append-nil (links ++ failed)))
    (subst (λ (l : List KeySteps). Grows (links ++ failed) l key) (sym (append-nil (links ++ (failed ++ key ∷ [])))) (grows_at links failed key))

-- a start fails
pub vain_table : (table after : Look) (done : DriverSeen) (entry : Unstarted) (key : KeySteps) → HasTable table (record done { running = None })
    → nat_le done.room 0 ≡ false → entry.key ≡ key → table key ≡ None → IsPut table key (Some no_reply) after
    → HasTable after (record done { unstarted = done.unstarted ++ entry ∷ []; running = None })
vain_table table after done entry key has room of_key none put =
    let is = prepared table done None has room in
    let links = links_keys done.links in
    let failed = failed_keys done.unstarted in
    let old = (links ++ failed) ++ [] in
    let next : DriverSeen = record done { unstarted = done.unstarted ++ entry ∷ []; running = None } in
    let grows : Grows old (driver_keys next) key =
    subst (λ (l : List KeySteps). Grows old ((links ++ l) ++ []) key) (sym (failed_more done.unstarted entry ∙ ap (λ (k : KeySteps). failed ++ k ∷ []) of_key))
    (grows_failed links failed key) in
    let stays = kept table after key (Some no_reply) old is.all none put in
    record {
      links_tell = links_stay table after done.links (λ k is_in. stays k (in_links links failed [] k is_in)) is.links_tell;
      failures_tell =
          each_more (TellsFailure after) done.unstarted entry
          (failures_stay table after done.unstarted (λ k is_in. stays k (in_failed links failed [] k is_in)) is.failures_tell) (ap after of_key ∙ put.0);
      running_tells = tt;
      no_others = no_others_after table after key (Some no_reply) old (driver_keys next) grows is.no_others put;
      decided = inr (all_after table after key no_reply old (driver_keys next) grows is.all none put);
      room = is.room;
    }

-- a request is not asked
pub left_table : (table after : Look) (driver : DriverSeen) (key : KeySteps) → HasTable table driver → IsPut table key None after → HasTable after driver
left_table table after driver key has put = record {
  links_tell = links_stay table after driver.links (λ k is_in. put k) has.links_tell;
  failures_tell = failures_stay table after driver.unstarted (λ k is_in. put k) has.failures_tell;
  running_tells = running_stays table after driver.running (λ k is_in. put k) has.running_tells;
  no_others = λ k not_in. put k ∙ has.no_others k not_in;
  decided = elim has.decided [
    | inl over ↦ inl over
    | inr all ↦ inr (λ k is_in gone. all k is_in (sym (put k) ∙ gone))
  ];
  room = has.room;
}

-- a driver that runs no process
pub run_table : (table : Look) (done : DriverSeen) → done.running ≡ None → HasTable table done → IsRunTable table done.links done.unstarted
run_table table done none has =
    let keys : driver_keys done ≡ asked_keys done.links done.unstarted =
    ap (λ (r : Option RunningSeen). asked_keys done.links done.unstarted ++ running_keys r) none ∙ append-nil (asked_keys done.links done.unstarted) in
    record {
      links_tell = has.links_tell;
      failures_tell = has.failures_tell;
      no_others = λ k not_in. has.no_others k (λ is_in. not_in (subst (λ (l : List KeySteps). Contains l k) keys is_in));
    }

-- a driver that was asked nothing
pub fresh_table : (table : Look) (driver : DriverSeen) → driver.links ≡ [] → driver.unstarted ≡ [] → driver.running ≡ None → driver.room ≡ MOST_BYTES + 1
    → ((key : KeySteps) → table key ≡ None) → HasTable table driver
fresh_table table driver links unstarted running room none =
    let keys : driver_keys driver ≡ [] =
    ap₂ (λ (l : List LinkSeen) (u : List Unstarted). asked_keys l u ++ running_keys driver.running) links unstarted ∙ ap (λ (r : Option RunningSeen). running_keys r) running in
    record {
      links_tell = subst (λ (l : List LinkSeen). Each (TellsLink table) l) (sym links) tt;
      failures_tell = subst (λ (u : List Unstarted). Each (TellsFailure table) u) (sym unstarted) tt;
      running_tells = subst (λ (r : Option RunningSeen). TellsAny table r) (sym running) tt;
      no_others = λ k not_in. none k;
      decided = inr (λ k is_in gone. let less = (subst (λ (l : List KeySteps). Contains l k) keys is_in).1 in omega (arith, less));
      room = room ∙ ap (λ (l : List LinkSeen). (MOST_BYTES + 1) - bytes_of l) (sym links);
    }

pub no_room : (room : ℕ) → 0 < room → nat_le room 0 ≡ false
no_room room some = grind (arith, nat_tests, some)

-- a driver is spent where what was given fills the room
pub spent_decides : (wanted : List Wanted) (before after : StarterSeen) (driver : DriverSeen) (spent : Bool) → spent ≡ nat_le driver.room (running_bytes driver.running)
    → IsDriven wanted before driver after → Decides spent (IsSpent driver)
spent_decides wanted before after driver spent is driven = (
  λ yes. grind (arith, nat_tests, driven.room, is, yes),
  λ over. grind (arith, nat_tests, driven.room, is, over),
)
