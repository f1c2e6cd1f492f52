-- What one more turn makes of a driver.
use Rattle.std.proofs.Common.{◌≡◌, ℕ, suc, ◌+◌, ◌-◌, ◌<◌, ◌≤◌, ◌⊎◌, Bool, true, false, nat_le, Option, Some, None, List, [], ◌∷◌, ◌++◌, length, map, flat_map, refl, sym, ap, ap₂, subst, ◌∙◌, append_assoc, append-nil, length-append, arith, inl, inr}
use Rattle.std.proofs.lemmas.Bool.Decides.{nat_tests}
use Rattle.std.proofs.lemmas.List.Concat.{flat_map-append}
use Rattle.std.proofs.lemmas.List.{map-append}
use Rattle.swift_base.specs.Told.{prepend, Rose}
use Rattle.swift_base.specs.Outside.{StarterSeen, IsFreshWriter, IsFreshReader, TakesLink, then_started, then_failed}
use Rattle.plugin_frames.specs.Frames.{Rest, IsFrames}
use Rattle.plugin_frames.specs.Laws.{FramesGoOn, NoFrames}
use Rattle.plugin_messages.specs.declared.request.Request.{Request}
use Rattle.link_driver.specs.declared.link.TheConstants.{MOST_BYTES}
use Rattle.link_driver.specs.declared.link.Unstarted.{Unstarted}
use Rattle.link_driver.specs.Links.{KeySteps, LinkSeen, RunningSeen, whole_of, running_whole, Holds, IsWritten}
use Rattle.link_driver.specs.LinkTable.{is_result}
use Rattle.link_driver.specs.Lists.{Each}
use Rattle.plugin_messages.specs.declared.message.Outcome.{Outcome}
use Rattle.link_driver.specs.Requests.{Wanted, key_of, module_of, greeting_frame, request_frame, bytes_for, write_for, sent_for, first_command}
use Rattle.link_driver.specs.Awaiting.{AreAwaited}
use Rattle.link_driver.specs.Asking.{IsRetired, HasAnswered, HasEnded, IsAskedOf, goes_on, ends}
use Rattle.link_driver.specs.Driven.{DriverSeen, bytes_of, running_bytes, AreReplies, HasReplies, IsReady, IsProcess, TakesProcess, IsFailedStart, IsAskedWithin, IsWithin, AreWithin, Turn, Process, Failure, requests_in, links_in, unstarted_in, IsTurn, AreTurns, IsRunning, IsDriven}
use Rattle.link_driver.proofs.Written.{gains_whole, given_held}

-- lists

pub each_more : {A : Type 0} (P : A → Type 0) (xs : List A) (x : A) → Each P xs → P x → Each P (xs ++ x ∷ [])
each_more P [] x each is = (is, tt)
each_more P (y ∷ ys) x each is = (each.0, each_more P ys x each.1 is)

pub bytes_more : (links : List LinkSeen) (link : LinkSeen) → bytes_of (links ++ link ∷ []) ≡ bytes_of links + length link.got
bytes_more [] link = omega arith
bytes_more (first ∷ links) link = omega (arith, bytes_more links link)

turns_more : (before : StarterSeen) (turns : List Turn) (between : StarterSeen) (turn : Turn) (after : StarterSeen)
    → AreTurns before turns between → IsTurn between turn after → AreTurns before (turns ++ turn ∷ []) after
turns_more before [] between turn after are is = (after, subst (λ (b : StarterSeen). IsTurn b turn after) are is, refl)
turns_more before (first ∷ turns) between turn after (middle, begins, are) is = (middle, begins, turns_more middle turns between turn after are is)

bytes_append : (xs ys : List LinkSeen) → bytes_of (xs ++ ys) ≡ bytes_of xs + bytes_of ys
bytes_append [] ys = omega arith
bytes_append (x ∷ xs) ys = omega (arith, bytes_append xs ys)

from_none : (one other : ℕ) → one ≡ other → one ≡ 0 + other
from_none one other same = omega (arith, same)

within_more : (given : ℕ) (turns : List Turn) (turn : Turn) → AreWithin given turns → IsWithin (given + bytes_of (flat_map links_in turns)) turn
    → AreWithin given (turns ++ turn ∷ [])
within_more given [] turn within is = let same : given + 0 ≡ given = omega arith in (subst (λ (n : ℕ). IsWithin n turn) same is, tt)
within_more given (first ∷ turns) turn within is =
    let same : given + bytes_of (flat_map links_in (first ∷ turns)) ≡ (given + bytes_of (links_in first)) + bytes_of (flat_map links_in turns) =
    omega (arith, bytes_append (links_in first) (flat_map links_in turns)) in
    (within.0, within_more (given + bytes_of (links_in first)) turns turn within.1 (subst (λ (n : ℕ). IsWithin n turn) same is))

-- bytes

sent_more : (earlier : List Wanted) (last : Wanted) → sent_for earlier ++ write_for earlier last.request ≡ sent_for (earlier ++ last ∷ [])
sent_more [] last = ap (λ (b : List ℕ). greeting_frame ++ b) (sym (append-nil (request_frame last.request)))
sent_more (first ∷ more) last =
    let frame : Wanted → List ℕ = λ wanted. request_frame wanted.request in
    append_assoc greeting_frame (flat_map frame (first ∷ more)) (frame last)
    ∙ ap (λ (b : List ℕ). greeting_frame ++ b)
    (ap (λ (b : List ℕ). flat_map frame (first ∷ more) ++ b) (sym (append-nil (frame last))) ∙ sym (flat_map-append frame (first ∷ more) (last ∷ [])))

first_stays : (earlier : List Wanted) (last next : Wanted) → first_command (earlier ++ last ∷ []) next ≡ first_command earlier last
first_stays [] last next = refl
first_stays (first ∷ more) last next = refl

abbrev pub is_first : List Wanted → Bool
is_first [] = true
is_first (first ∷ more) = false

-- replies

abbrev grow_replies : (count : ℕ) (old new gained : List ℕ) → HasReplies count old → new ≡ old ++ gained → HasReplies count new
grow_replies count old new gained has grows = record {
  front = has.front;
  behind = has.behind ++ gained;
  payloads = has.payloads;
  whole = grows ∙ ap (λ (g : List ℕ). g ++ gained) has.whole ∙ append_assoc has.front has.behind gained;
  frames = has.frames;
  replies = has.replies;
}

within_grows : (given : ℕ) (earlier : List Wanted) (old new gained : List ℕ) → IsAskedWithin given earlier old → new ≡ old ++ gained
    → IsAskedWithin given earlier new
within_grows given earlier old new gained within grows = record {
  replied = grow_replies (length earlier) old new gained within.replied grows;
  few = within.few;
}

-- bytes that begin with those of a process that was ready
abbrev has_behind : (count : ℕ) (old new gained : List ℕ) (payloads : List (List ℕ)) → IsFrames old payloads (Rest []) → AreReplies count payloads → new ≡ old ++ gained
    → HasReplies count new
has_behind count old new gained payloads frames replies grows = record { front = old; behind = gained; payloads = payloads; whole = grows; frames = frames; replies = replies }

one_reply : (payloads : List (List ℕ)) → AreReplies 0 payloads → (new : List (List ℕ)) (said : Outcome) → AreAwaited true said new → AreReplies 1 (payloads ++ new)
one_reply payloads none new said (greeting, reply, are, greets, gives) = record {
  greeting = greeting;
  replies = reply ∷ [];
  in_order = ap (λ (l : List (List ℕ)). l ++ new) none ∙ are;
  greets = greets;
  enough = omega arith;
  each = (gives.replies, tt);
}

reply_more : (count : ℕ) (payloads : List (List ℕ)) → AreReplies (suc count) payloads → (new : List (List ℕ)) (said : Outcome) → AreAwaited false said new
    → AreReplies (suc (suc count)) (payloads ++ new)
reply_more count payloads greeted new said (reply, are, gives) = record {
  greeting = greeted.greeting;
  replies = greeted.replies ++ reply ∷ [];
  in_order = ap (λ (l : List (List ℕ)). l ++ new) greeted.in_order ∙ ap (λ (l : List (List ℕ)). greeted.greeting ∷ (greeted.replies ++ l)) are;
  greets = greeted.greets;
  enough = omega (arith, greeted.enough, length-append greeted.replies (reply ∷ []));
  each = each_more (λ (r : List ℕ). is_result r ≡ true) greeted.replies reply greeted.each gives.replies;
}

replies_more : (requests : List Wanted) (payloads new : List (List ℕ)) (said : Outcome) → AreReplies (length requests) payloads → AreAwaited (is_first requests) said new
    → AreReplies (suc (length requests)) (payloads ++ new)
replies_more [] payloads new said are came = one_reply payloads are new said came
replies_more (first ∷ more) payloads new said are came = reply_more (length more) payloads are new said came

longer : (requests : List Wanted) (last : Wanted) → length (requests ++ last ∷ []) ≡ suc (length requests)
longer requests last = omega (arith, length-append requests (last ∷ []))

keys_more : (requests : List Wanted) (last : Wanted) → map key_of (requests ++ last ∷ []) ≡ map key_of requests ++ key_of last ∷ []
keys_more requests last = map-append key_of requests (last ∷ [])

within_ready : (given : ℕ) (requests : List Wanted) (link : RunningSeen) (got gained : List ℕ) → IsReady requests link → given + length link.got ≤ MOST_BYTES
    → got ≡ link.got ++ gained → IsAskedWithin given requests got
within_ready given requests link got gained ready few grows = record {
  replied = has_behind (length requests) link.got got gained ready.payloads ready.frames ready.replies grows;
  few = few;
}

-- one more request of a process

of_same : (requests : List Wanted) (one other : List ℕ) → other ≡ one → Each (λ wanted. module_of wanted ≡ one) requests → Each (λ wanted. module_of wanted ≡ other) requests
of_same requests one other same each = subst (λ (m : List ℕ). Each (λ wanted. module_of wanted ≡ m) requests) (sym same) each

ready_more : (requests : List Wanted) (wanted : Wanted) (link next : RunningSeen) (said : Outcome) → FramesGoOn → IsReady requests link → module_of wanted ≡ link.module_name
    → HasAnswered link (key_of wanted) (write_for requests wanted.request) (is_first requests) said next → IsReady (requests ++ wanted ∷ []) next
ready_more requests wanted link next said goes ready of_module answered = record {
  asked = answered.asked ∙ ap (λ l. l ++ key_of wanted ∷ []) ready.asked ∙ sym (keys_more requests wanted);
  of_module = of_same (requests ++ wanted ∷ []) link.module_name next.module_name answered.module_name (each_more (λ (w : Wanted). module_of w ≡ link.module_name) requests wanted ready.of_module of_module);
  held = subst (λ (b : List ℕ). Holds b next.writer) (sent_more requests wanted) (answered.held (sent_for requests) ready.held);
  not_stopped = answered.not_stopped;
  payloads = ready.payloads ++ answered.replies.payloads;
  frames =
      subst (λ (b : List ℕ). IsFrames b (ready.payloads ++ answered.replies.payloads) (Rest [])) (sym answered.replies.appended)
      (goes link.got answered.replies.gained [] ready.payloads answered.replies.payloads (Rest []) ready.frames answered.replies.read);
  replies =
      subst (λ (n : ℕ). AreReplies n (ready.payloads ++ answered.replies.payloads)) (sym (longer requests wanted))
      (replies_more requests ready.payloads answered.replies.payloads said ready.replies answered.replies.awaited_so);
}

process_ended : (requests : List Wanted) (wanted : Wanted) (link : RunningSeen) (closed : LinkSeen) → IsReady requests link → module_of wanted ≡ link.module_name
    → HasEnded link (key_of wanted) (write_for requests wanted.request) (is_first requests) closed → IsProcess requests wanted closed
process_ended requests wanted link closed ready of_module ended = record {
  asked = ended.asked ∙ ap (λ l. l ++ key_of wanted ∷ []) ready.asked ∙ sym (keys_more requests wanted);
  of_module = of_same (requests ++ wanted ∷ []) link.module_name closed.module_name ended.module_name (each_more (λ (w : Wanted). module_of w ≡ link.module_name) requests wanted ready.of_module of_module);
  written = ended.written (sent_for requests) ready.held;
  stopped = ended.stopped;
  replied = has_behind (length requests) link.got closed.got ended.gains.gained ready.payloads ready.frames ready.replies ended.gains.appended;
}

process_retired : (earlier : List Wanted) (last : Wanted) (link : RunningSeen) (closed : LinkSeen) → HasReplies (length earlier) link.got
    → IsReady (earlier ++ last ∷ []) link → IsRetired link false closed → IsProcess earlier last closed
process_retired earlier last link closed replied ready retired = record {
  asked = retired.asked ∙ ready.asked;
  of_module = of_same (earlier ++ last ∷ []) link.module_name closed.module_name retired.module_name ready.of_module;
  written =
      subst (λ (f : Bool). IsWritten (sent_for earlier) (write_for earlier last.request) f closed.writer) (sym retired.failed)
      (retired.written (sent_for earlier) (write_for earlier last.request)
      (given_held (sent_for earlier) (write_for earlier last.request) link.writer
      (subst (λ (b : List ℕ). Holds b link.writer) (sym (sent_more earlier last)) ready.held)));
  stopped = retired.stopped;
  replied = grow_replies (length earlier) link.got closed.got retired.gains.gained replied retired.gains.appended;
}

abbrev made : List LinkSeen → List Unstarted → ℕ → Option RunningSeen → DriverSeen
made links unstarted room running = record { links = links; unstarted = unstarted; room = room; running = running }

pub same_seen : (one other : DriverSeen) → other.links ≡ one.links → other.unstarted ≡ one.unstarted → other.room ≡ one.room → other.running ≡ one.running
    → other ≡ one
same_seen one other links unstarted room running =
    ap₂ (λ (l : List LinkSeen) (u : List Unstarted). made l u other.room other.running) links unstarted
    ∙ ap₂ (λ (r : ℕ) (x : Option RunningSeen). made one.links one.unstarted r x) room running

pub as_answered : (link next : RunningSeen) (key other : KeySteps) (sent bytes : List ℕ) (first : Bool) (said : Outcome) → key ≡ other → sent ≡ bytes
    → HasAnswered link key sent first said next → HasAnswered link other bytes first said next
as_answered link next key other sent bytes first said same_key same_bytes is =
    subst (λ k. HasAnswered link k bytes first said next) same_key (subst (λ b. HasAnswered link key b first said next) same_bytes is)

pub as_ended : (link : RunningSeen) (closed : LinkSeen) (key other : KeySteps) (sent bytes : List ℕ) (first : Bool) → key ≡ other → sent ≡ bytes
    → HasEnded link key sent first closed → HasEnded link other bytes first closed
as_ended link closed key other sent bytes first same_key same_bytes is =
    subst (λ k. HasEnded link k bytes first closed) same_key (subst (λ b. HasEnded link key b first closed) same_bytes is)

-- one more turn of a driver

then_process : (wanted left earlier : List Wanted) (last : Wanted) (turns : List Turn) (before between after : StarterSeen) (done : DriverSeen) (closed : LinkSeen)
    → wanted ≡ flat_map requests_in turns ++ ((earlier ++ last ∷ []) ++ left) → done.links ≡ flat_map links_in turns
    → done.unstarted ≡ flat_map unstarted_in turns → AreTurns before turns between → done.room ≡ (MOST_BYTES + 1) - bytes_of done.links
    → IsProcess earlier last closed → TakesProcess between (first_command earlier last) (whole_of closed) after
    → AreWithin 0 turns → IsAskedWithin (bytes_of done.links) earlier closed.got → (left ≡ []) ⊎ (MOST_BYTES < bytes_of done.links + length closed.got)
    → IsDriven wanted before (record done { links = done.links ++ closed ∷ []; room = done.room - length closed.got; running = None }) after
then_process wanted left earlier last turns before between after done closed in_order links unstarted are room process takes within asked limit =
    let turn : Turn = Process closed earlier last in
    record {
      turns = turns ++ turn ∷ [];
      requests = [];
      left = left;
      in_order =
          in_order ∙ sym (append_assoc (flat_map requests_in turns) (earlier ++ last ∷ []) left)
          ∙ ap (λ (l : List Wanted). l ++ left)
          (ap (λ (l : List Wanted). flat_map requests_in turns ++ l) (sym (append-nil (earlier ++ last ∷ []))) ∙ sym (flat_map-append requests_in turns (turn ∷ [])));
      links = ap (λ (l : List LinkSeen). l ++ closed ∷ []) links ∙ sym (flat_map-append links_in turns (turn ∷ []));
      unstarted = unstarted ∙ sym (append-nil (flat_map unstarted_in turns)) ∙ sym (flat_map-append unstarted_in turns (turn ∷ []));
      between = after;
      are_turns = turns_more before turns between turn after are (process, takes);
      within = within_more 0 turns turn within (subst (λ (n : ℕ). IsAskedWithin n earlier closed.got) (from_none _ _ (ap bytes_of links)) asked);
      running = (refl, refl);
      room = omega (arith, room, bytes_more done.links closed);
      limit = elim limit [
        | inl none ↦ inl none
        | inr over ↦ inr (omega (arith, over, bytes_more done.links closed))
      ];
    }

pub spent_retired : (done : DriverSeen) (link : RunningSeen) (closed : LinkSeen) → IsRetired link false closed → MOST_BYTES < bytes_of done.links + length link.got
    → MOST_BYTES < bytes_of (done.links ++ closed ∷ [])
spent_retired done link closed retired spent =
    omega (arith, spent, bytes_more done.links closed, ap length retired.gains.appended, length-append link.got retired.gains.gained)

pub nothing_done : (before : StarterSeen) (driver : DriverSeen) → driver.links ≡ [] → driver.unstarted ≡ [] → driver.room ≡ MOST_BYTES + 1
    → driver.running ≡ None → IsDriven [] before driver before
nothing_done before driver links unstarted room running = record {
  turns = [];
  requests = [];
  left = [];
  in_order = refl;
  links = links;
  unstarted = unstarted;
  between = before;
  are_turns = refl;
  within = tt;
  running = subst (λ (r : Option RunningSeen). IsRunning (bytes_of driver.links) before r [] before) (sym running) (refl, refl);
  room = subst (λ (l : List LinkSeen). driver.room ≡ (MOST_BYTES + 1) - bytes_of l) (sym links) (room ∙ omega arith);
  limit = inl refl;
}

-- nothing is asked any more
pub left_over : (wanted : List Wanted) (one : Wanted) (before after : StarterSeen) (driver : DriverSeen) → IsDriven wanted before driver after
    → nat_le driver.room (running_bytes driver.running) ≡ true → IsDriven (wanted ++ one ∷ []) before driver after
left_over wanted one before after driver driven spent = record {
  turns = driven.turns;
  requests = driven.requests;
  left = driven.left ++ one ∷ [];
  in_order =
      ap (λ (l : List Wanted). l ++ one ∷ []) driven.in_order
      ∙ append_assoc (flat_map requests_in driven.turns) (driven.requests ++ driven.left) (one ∷ [])
      ∙ ap (λ (l : List Wanted). flat_map requests_in driven.turns ++ l) (append_assoc driven.requests driven.left (one ∷ []));
  links = driven.links;
  unstarted = driven.unstarted;
  between = driven.between;
  are_turns = driven.are_turns;
  within = driven.within;
  running = driven.running;
  room = driven.room;
  limit = inr (grind (arith, nat_tests, spent, driven.room));
}

none_left : (wanted : List Wanted) (before after : StarterSeen) (driver : DriverSeen) (driven : IsDriven wanted before driver after)
    → nat_le driver.room (running_bytes driver.running) ≡ false → driven.left ≡ []
none_left wanted before after driver driven some = elim driven.limit [
  | inl none ↦ none
  | inr over ↦ absurd (grind (arith, nat_tests, over, some, driven.room))
]

takes_whole : (before after : StarterSeen) (command other : List ℕ) (whole now : Option (List ℕ)) → other ≡ command → whole ≡ now
    → TakesProcess before command whole after → TakesProcess before other now after
takes_whole before after command other whole now same is takes =
    subst (λ (w : Option (List ℕ)). TakesProcess before other w after) is (subst (λ (c : List ℕ). TakesProcess before c whole after) (sym same) takes)

-- the process that runs is retired
pub retired : (wanted : List Wanted) (before after : StarterSeen) (done : DriverSeen) (link : RunningSeen) (closed : LinkSeen)
    → IsRetired link false closed → IsDriven wanted before (record done { running = Some link }) after
    → IsDriven wanted before (record done { links = done.links ++ closed ∷ []; room = done.room - length closed.got; running = None }) after
retired wanted before after done link closed is driven =
    let runs = driven.running in
    then_process wanted driven.left runs.earlier runs.last driven.turns before driven.between after done closed
    (driven.in_order ∙ ap (λ (r : List Wanted). flat_map requests_in driven.turns ++ (r ++ driven.left)) runs.in_order)
    driven.links driven.unstarted driven.are_turns driven.room
    (process_retired runs.earlier runs.last link closed runs.asked_within.replied (subst (λ (r : List Wanted). IsReady r link) runs.in_order runs.ready) is)
    (takes_whole driven.between after _ _ (running_whole link) (whole_of closed) refl (gains_whole link.reader closed.reader link.got closed.got is.gains) runs.started)
    driven.within (within_grows (bytes_of done.links) runs.earlier link.got closed.got is.gains.gained runs.asked_within is.gains.appended)
    (elim driven.limit [
      | inl left ↦ inl left
      | inr over ↦ inr (omega (arith, over, ap length is.gains.appended, length-append link.got is.gains.gained))
    ])

one_behind : (wanted done requests left : List Wanted) (one : Wanted) → left ≡ [] → wanted ≡ done ++ (requests ++ left)
    → wanted ++ one ∷ [] ≡ done ++ ((requests ++ one ∷ []) ++ [])
one_behind wanted done requests left one nothing is =
    ap (λ (l : List Wanted). l ++ one ∷ []) (is ∙ ap (λ (l : List Wanted). done ++ (requests ++ l)) nothing ∙ ap (λ (l : List Wanted). done ++ l) (append-nil requests))
    ∙ append_assoc done requests (one ∷ []) ∙ ap (λ (l : List Wanted). done ++ l) (sym (append-nil (requests ++ one ∷ [])))

-- one more request of a process
asked_of : (wanted left requests : List Wanted) (one : Wanted) (turns : List Turn) (before between after : StarterSeen) (done next : DriverSeen)
    (link : RunningSeen) (outcome : Option Outcome) → FramesGoOn → left ≡ [] → wanted ≡ flat_map requests_in turns ++ (requests ++ left)
    → done.links ≡ flat_map links_in turns → done.unstarted ≡ flat_map unstarted_in turns → AreTurns before turns between
    → done.room ≡ (MOST_BYTES + 1) - bytes_of done.links → IsReady requests link → module_of one ≡ link.module_name
    → TakesProcess between (first_command requests one) (running_whole link) after → AreWithin 0 turns → bytes_of done.links + length link.got ≤ MOST_BYTES
    → IsAskedOf done link (key_of one) (write_for requests one.request) (is_first requests) outcome next → IsDriven (wanted ++ one ∷ []) before next after
asked_of wanted left requests one turns before between after done next link outcome goes nothing in_order links unstarted are room ready of_module takes within few (goes_on answered said is says same) =
    subst (λ (d : DriverSeen). IsDriven (wanted ++ one ∷ []) before d after) (sym same)
    (record {
      turns = turns;
      requests = requests ++ one ∷ [];
      left = [];
      in_order = one_behind wanted (flat_map requests_in turns) requests left one nothing in_order;
      links = links;
      unstarted = unstarted;
      between = between;
      are_turns = are;
      within = within;
      running = record {
        earlier = requests;
        last = one;
        in_order = refl;
        ready = ready_more requests one link answered said goes ready of_module is;
        asked_within = within_ready (bytes_of done.links) requests link answered.got is.gains.gained ready few is.gains.appended;
        started = takes_whole between after _ _ (running_whole link) (running_whole answered) refl (gains_whole link.reader answered.reader link.got answered.got is.gains) takes;
      };
      room = room;
      limit = inl refl;
    })
asked_of wanted left requests one turns before between after done next link outcome goes nothing in_order links unstarted are room ready of_module takes within few (ends closed is last same) =
    subst (λ (d : DriverSeen). IsDriven (wanted ++ one ∷ []) before d after) (sym same)
    (then_process (wanted ++ one ∷ []) [] requests one turns before between after done closed
    (one_behind wanted (flat_map requests_in turns) requests left one nothing in_order)
    links unstarted are room (process_ended requests one link closed ready of_module is)
    (takes_whole between after _ _ (running_whole link) (whole_of closed) refl (gains_whole link.reader closed.reader link.got closed.got is.gains) takes)
    within (within_ready (bytes_of done.links) requests link closed.got is.gains.gained ready few is.gains.appended)
    (inl refl))

first_for : (requests earlier : List Wanted) (last one : Wanted) → requests ≡ earlier ++ last ∷ [] → first_command requests one ≡ first_command earlier last
first_for requests earlier last one is = ap (λ (r : List Wanted). first_command r one) is ∙ first_stays earlier last one

writes_on : (requests earlier : List Wanted) (last : Wanted) (request : Request) → requests ≡ earlier ++ last ∷ [] → bytes_for false request ≡ write_for requests request
writes_on requests [] last request is = ap (λ (r : List Wanted). write_for r request) (sym is)
writes_on requests (first ∷ more) last request is = ap (λ (r : List Wanted). write_for r request) (sym is)

not_first : (requests earlier : List Wanted) (last : Wanted) → requests ≡ earlier ++ last ∷ [] → false ≡ is_first requests
not_first requests [] last is = ap is_first (sym is)
not_first requests (first ∷ more) last is = ap is_first (sym is)

as_asked : (done next : DriverSeen) (link : RunningSeen) (key : KeySteps) (sent other : List ℕ) (first second : Bool) (outcome : Option Outcome) → sent ≡ other → first ≡ second
    → IsAskedOf done link key sent first outcome next → IsAskedOf done link key other second outcome next
as_asked done next link key sent other first second outcome sent_same same is =
    subst (λ (b : Bool). IsAskedOf done link key other b outcome next) same (subst (λ (s : List ℕ). IsAskedOf done link key s first outcome next) sent_same is)

few_again : (done : DriverSeen) (link : RunningSeen) (given : ℕ) → done.room ≡ (MOST_BYTES + 1) - given → nat_le done.room (length link.got) ≡ false
    → given + length link.got ≤ MOST_BYTES
few_again done link given room some = grind (arith, nat_tests, some, room)

few_first : (done : DriverSeen) (link : RunningSeen) (given : ℕ) → done.room ≡ (MOST_BYTES + 1) - given → 0 < done.room → link.got ≡ []
    → given + length link.got ≤ MOST_BYTES
few_first done link given room some got = omega (arith, some, room, ap length got)

-- the process that runs is asked once more
pub asked_again : (wanted : List Wanted) (one : Wanted) (before after : StarterSeen) (done next : DriverSeen) (link : RunningSeen) (outcome : Option Outcome) → FramesGoOn
    → IsDriven wanted before (record done { running = Some link }) after → nat_le done.room (length link.got) ≡ false → link.module_name ≡ module_of one
    → IsAskedOf done link (key_of one) (bytes_for false one.request) false outcome next → IsDriven (wanted ++ one ∷ []) before next after
asked_again wanted one before after done next link outcome goes driven some of_module is =
    let runs = driven.running in
    asked_of wanted driven.left driven.requests one driven.turns before driven.between after done next link outcome goes
    (none_left wanted before after (record done { running = Some link }) driven some) driven.in_order driven.links driven.unstarted driven.are_turns driven.room
    runs.ready (sym of_module)
    (takes_whole driven.between after _ _ (running_whole link) (running_whole link) (first_for driven.requests runs.earlier runs.last one runs.in_order) refl runs.started)
    driven.within (few_again done link (bytes_of done.links) driven.room some)
    (as_asked done next link (key_of one) _ _ false (is_first driven.requests) outcome (writes_on driven.requests runs.earlier runs.last one.request runs.in_order)
    (not_first driven.requests runs.earlier runs.last runs.in_order) is)

fresh_ready : (link : RunningSeen) → NoFrames → link.asked ≡ [] → link.got ≡ [] → IsFreshWriter link.writer → IsFreshReader link.reader → IsReady [] link
fresh_ready link none asked got writer reader = record {
  asked = asked;
  of_module = tt;
  held = record { held = writer.held; open_still = writer.closing };
  not_stopped = reader;
  payloads = [];
  frames = subst (λ (b : List ℕ). IsFrames b [] (Rest [])) (sym got) none;
  replies = refl;
}

nothing_runs : (wanted : List Wanted) (before after : StarterSeen) (done : DriverSeen) (driven : IsDriven wanted before done after) → done.running ≡ None
    → (driven.requests ≡ []) × (after ≡ driven.between)
nothing_runs wanted before after done driven none = subst (λ (r : Option RunningSeen). IsRunning (bytes_of done.links) driven.between r driven.requests after) none driven.running

none_left_of : (wanted : List Wanted) (before after : StarterSeen) (done : DriverSeen) (driven : IsDriven wanted before done after) → done.running ≡ None
    → 0 < done.room → driven.left ≡ []
none_left_of wanted before after done driven none some = elim driven.limit [
  | inl left ↦ left
  | inr over ↦
      let most : MOST_BYTES < bytes_of done.links + 0 = subst (λ (r : Option RunningSeen). MOST_BYTES < bytes_of done.links + running_bytes r) none over in
      absurd (omega (arith, most, some, driven.room))
]

left_of : (given whole : Option (List ℕ)) → given ≡ whole → given ≡ prepend [] whole
left_of given None is = is
left_of given (Some rest) is = is

-- a process is started, and asked for the first time
pub asked_first : (wanted : List Wanted) (one : Wanted) (before middle after : StarterSeen) (done next : DriverSeen) (link : RunningSeen) (outcome : Option Outcome) → NoFrames → FramesGoOn
    → done.running ≡ None → 0 < done.room → IsDriven wanted before done middle → link.module_name ≡ module_of one → link.asked ≡ [] → link.got ≡ []
    → IsFreshWriter link.writer → IsFreshReader link.reader → TakesLink middle.links after.links link.reader.left
    → after.commands ≡ then_started middle.commands one.command → middle.faults ≤ after.faults
    → IsAskedOf done link (key_of one) (bytes_for true one.request) true outcome next → IsDriven (wanted ++ one ∷ []) before next after
asked_first wanted one before middle after done next link outcome none goes none_runs some driven of_module asked got writer reader takes commands faults is =
    let runs = nothing_runs wanted before middle done driven none_runs in
    let takes_all : TakesProcess middle one.command (running_whole link) after = record {
      link_taken =
          subst (λ (l : Option (List ℕ)). TakesLink middle.links after.links l)
          (left_of link.reader.left link.reader.left refl ∙ ap (λ (g : List ℕ). prepend g link.reader.left) (sym got)) takes;
      commands = commands;
      faults = faults;
    } in
    asked_of wanted driven.left [] one driven.turns before driven.between after done next link outcome goes
    (none_left_of wanted before middle done driven none_runs some)
    (driven.in_order ∙ ap (λ (r : List Wanted). flat_map requests_in driven.turns ++ (r ++ driven.left)) runs.0)
    driven.links driven.unstarted driven.are_turns driven.room (fresh_ready link none asked got writer reader) (sym of_module)
    (subst (λ (s : StarterSeen). TakesProcess s one.command (running_whole link) after) runs.1 takes_all)
    driven.within (few_first done link (bytes_of done.links) driven.room some got) is

-- a start fails
pub asked_in_vain : (wanted : List Wanted) (one : Wanted) (before middle after : StarterSeen) (done next : DriverSeen) (entry : Unstarted)
    → done.running ≡ None → 0 < done.room → IsDriven wanted before done middle → entry.key ≡ key_of one → entry.before ≡ middle.faults
    → entry.after ≡ after.faults → Rose middle.faults after.faults → middle.faults ≤ after.faults → after.links ≡ middle.links
    → after.commands ≡ then_failed middle.commands one.command → next.links ≡ done.links → next.unstarted ≡ done.unstarted ++ entry ∷ []
    → next.room ≡ done.room → next.running ≡ None → IsDriven (wanted ++ one ∷ []) before next after
asked_in_vain wanted one before middle after done next entry none_runs some driven of_key count_before count_after rose faults no_link commands links unstarted room running =
    let runs = nothing_runs wanted before middle done driven none_runs in
    let turn : Turn = Failure entry one in
    let left : driven.left ≡ [] = none_left_of wanted before middle done driven none_runs some in
    let fails : IsFailedStart middle one entry after = record {
      of_key = of_key;
      count_before = count_before;
      count_after = count_after;
      rose = rose;
      faults = faults;
      links = no_link;
      commands = commands;
    } in
    record {
      turns = driven.turns ++ turn ∷ [];
      requests = [];
      left = [];
      in_order =
          ap (λ (l : List Wanted). l ++ one ∷ [])
          (driven.in_order ∙ ap (λ (r : List Wanted). flat_map requests_in driven.turns ++ (r ++ driven.left)) runs.0
          ∙ ap (λ (l : List Wanted). flat_map requests_in driven.turns ++ l) left ∙ append-nil (flat_map requests_in driven.turns))
          ∙ sym (flat_map-append requests_in driven.turns (turn ∷ [])) ∙ sym (append-nil (flat_map requests_in (driven.turns ++ turn ∷ [])));
      links = links ∙ driven.links ∙ sym (append-nil (flat_map links_in driven.turns)) ∙ sym (flat_map-append links_in driven.turns (turn ∷ []));
      unstarted =
          unstarted ∙ ap (λ (l : List Unstarted). l ++ entry ∷ []) driven.unstarted ∙ sym (flat_map-append unstarted_in driven.turns (turn ∷ []));
      between = after;
      are_turns = turns_more before driven.turns driven.between turn after driven.are_turns (subst (λ (s : StarterSeen). IsFailedStart s one entry after) runs.1 fails);
      within = within_more 0 driven.turns turn driven.within (omega (arith, some, driven.room, ap bytes_of driven.links));
      running = subst (λ (r : Option RunningSeen). IsRunning (bytes_of next.links) after r [] after) (sym running) (refl, refl);
      room = subst (λ (l : List LinkSeen). next.room ≡ (MOST_BYTES + 1) - bytes_of l) (sym links) (room ∙ driven.room);
      limit = inl refl;
    }

pub some_room : (room : ℕ) → nat_le room 0 ≡ false → 0 < room
some_room room some = grind (arith, nat_tests, some)
