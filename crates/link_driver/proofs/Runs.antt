-- What follows from the turns of a run.
use Rattle.std.proofs.Common.{◌≡◌, ℕ, ◌+◌, ◌<◌, ◌≤◌, Option, Some, None, List, [], ◌∷◌, ◌++◌, length, map, flat_map, IsPermutation, refl, sym, ap, subst, ◌∙◌, append_assoc, append-nil, length-append, arith, le_refl, inl, inr}
use Rattle.std.proofs.lemmas.List.{map-append}
use Rattle.std.proofs.lemmas.List.Sorted.{IsPermutation-refl, IsPermutation-sym, IsPermutation-cons, IsPermutation-trans, IsPermutation-append, IsPermutation-middle}
use Rattle.swift_base.specs.Outside.{StarterSeen, Commands, TakesLink, then_started, then_failed}
use Rattle.link_driver.specs.declared.link.TheConstants.{MOST_BYTES}
use Rattle.link_driver.specs.declared.link.Unstarted.{Unstarted}
use Rattle.link_driver.specs.Links.{KeySteps, LinkSeen, RunningSeen, whole_of}
use Rattle.link_driver.specs.Requests.{Wanted, key_of, first_command}
use Rattle.link_driver.specs.Driven.{bytes_of, running_bytes, DriverSeen, IsDriven, IsRunning, Turn, Process, Failure, requests_in, links_in, unstarted_in, AreTurns}
use Rattle.link_driver.specs.LinkTable.{asked_keys}
use Rattle.link_driver.specs.Lists.{Each}
use Rattle.link_driver.specs.Ran.{HasRun}
use Rattle.link_driver.specs.Laws.{RunsAskOnce, IsSublist, none, takes, skips, IsServedOf, ProcessesServe, GaveLinks, RunsGiveLinks, EachPair, then_commands, IsStartedFor, IsFailedFor, RunsStartAsWanted, FailedBetween, FailedStartsHaveCauses, HasCause, StopsHaveCauses, NothingWantedNothingDone}

most_given : (done : DriverSeen) → done.running ≡ None → MOST_BYTES < bytes_of done.links + running_bytes done.running → MOST_BYTES < bytes_of done.links
most_given done is_none over =
    let most : MOST_BYTES < bytes_of done.links + 0 = subst (λ (r : Option RunningSeen). MOST_BYTES < bytes_of done.links + running_bytes r) is_none over in
    omega (arith, most)

-- a driver that runs no process has run
pub has_run : (wanted : List Wanted) (before after : StarterSeen) (done : DriverSeen) → done.running ≡ None → IsDriven wanted before done after
    → HasRun wanted before done.links done.unstarted after
has_run wanted before after done is_none driven =
    let runs : (driven.requests ≡ []) × (after ≡ driven.between) =
    subst (λ (r : Option RunningSeen). IsRunning (bytes_of done.links) driven.between r driven.requests after) is_none driven.running in
    record {
      turns = driven.turns;
      left = driven.left;
      in_order = driven.in_order ∙ ap (λ (r : List Wanted). flat_map requests_in driven.turns ++ (r ++ driven.left)) runs.0;
      links_are = driven.links;
      unstarted_are = driven.unstarted;
      are_turns = subst (λ (s : StarterSeen). AreTurns before driven.turns s) (sym runs.1) driven.are_turns;
      within = driven.within;
      limit = elim driven.limit [
        | inl left ↦ inl left
        | inr over ↦ inr (most_given done is_none over)
      ];
    }

-- each request once

pub keys_once : (before : StarterSeen) (turns : List Turn) (after : StarterSeen) → AreTurns before turns after
    → IsPermutation (map key_of (flat_map requests_in turns)) (asked_keys (flat_map links_in turns) (flat_map unstarted_in turns))
keys_once before [] after are = IsPermutation-refl []
keys_once before (Process link earlier last ∷ turns) after (between, is, are) =
    let requests = flat_map requests_in turns in
    let links = flat_map links_in turns in
    let failed = flat_map unstarted_in turns in
    let P : List KeySteps → List KeySteps → Type 0 = λ a b. IsPermutation a b in
    subst (λ a. P a ((link.asked ++ flat_map (λ l. l.asked) links) ++ map (λ e. e.key) failed)) (sym (map-append key_of (earlier ++ last ∷ []) requests))
    (subst (λ b. P (map key_of (earlier ++ last ∷ []) ++ map key_of requests) b) (sym (append_assoc link.asked (flat_map (λ l. l.asked) links) (map (λ e. e.key) failed)))
    (subst (λ k. P (k ++ map key_of requests) (link.asked ++ asked_keys links failed)) is.0.asked
    (IsPermutation-append (link.asked) (link.asked) _ _ (IsPermutation-refl link.asked) (keys_once between turns after are))))
keys_once before (Failure entry wanted ∷ turns) after (between, is, are) =
    let requests = flat_map requests_in turns in
    let links = flat_map links_in turns in
    let failed = flat_map unstarted_in turns in
    let P : List KeySteps → List KeySteps → Type 0 = λ a b. IsPermutation a b in
    subst (λ k. P (k ∷ map key_of requests) (flat_map (λ l. l.asked) links ++ entry.key ∷ map (λ e. e.key) failed)) is.of_key
    (IsPermutation-trans _ _ _ (IsPermutation-cons entry.key _ _ (keys_once between turns after are))
    (IsPermutation-sym _ _ (IsPermutation-middle (flat_map (λ l. l.asked) links) entry.key (map (λ e. e.key) failed))))

all_keys : (wanted taken left : List Wanted) (asked : List KeySteps) → wanted ≡ taken ++ left → IsPermutation (map key_of taken) asked
    → IsPermutation (map key_of wanted) (asked ++ map key_of left)
all_keys wanted taken left asked in_order once =
    subst (λ (k : List KeySteps). IsPermutation k (asked ++ map key_of left)) (sym (ap (map key_of) in_order ∙ map-append key_of taken left))
    (IsPermutation-append (map key_of taken) asked (map key_of left) (map key_of left) once (IsPermutation-refl (map key_of left)))

taken_once : (wanted : List Wanted) (before : StarterSeen) (links : List LinkSeen) (unstarted : List Unstarted) (after : StarterSeen)
    (ran : HasRun wanted before links unstarted after) → IsPermutation (map key_of (flat_map requests_in ran.turns)) (asked_keys links unstarted)
taken_once wanted before links unstarted after ran =
    let P : List LinkSeen → List Unstarted → Type 0 = λ l u. IsPermutation (map key_of (flat_map requests_in ran.turns)) (asked_keys l u) in
    subst (λ l. P l unstarted) (sym ran.links_are) (subst (λ u. P (flat_map links_in ran.turns) u) (sym ran.unstarted_are) (keys_once before ran.turns after ran.are_turns))

pub runs_ask_once : RunsAskOnce
runs_ask_once wanted before links unstarted after ran = record {
  taken = flat_map requests_in ran.turns;
  left = ran.left;
  in_order = ran.in_order;
  once = taken_once wanted before links unstarted after ran;
  all =
      all_keys wanted (flat_map requests_in ran.turns) ran.left (asked_keys links unstarted) ran.in_order
      (taken_once wanted before links unstarted after ran);
  limit = ran.limit;
}

-- who was asked what

each_so : {A : Type 0} (P Q : A → Type 0) (xs : List A) → ((x : A) → P x → Q x) → Each P xs → Each Q xs
each_so P Q [] so each = tt
each_so P Q (x ∷ xs) so each = (so x each.0, each_so P Q xs so each.1)

begins : (some others : List Wanted) → IsSublist some (some ++ others)
begins [] others = none others
begins (first ∷ some) others = takes first some (some ++ others) (begins some others)

follows : (front some others : List Wanted) → IsSublist some others → IsSublist some (front ++ others)
follows [] some others is = is
follows (first ∷ front) some others is = skips first some (front ++ others) (follows front some others is)

served_behind : (front wanted : List Wanted) (link : LinkSeen) → IsServedOf wanted link → IsServedOf (front ++ wanted) link
served_behind front wanted link is = record {
  earlier = is.earlier;
  last = is.last;
  serves = is.serves;
  wanted_so = follows front (is.earlier ++ is.last ∷ []) wanted is.wanted_so;
}

serve : (before : StarterSeen) (turns : List Turn) (after : StarterSeen) (left : List Wanted) → AreTurns before turns after
    → Each (IsServedOf (flat_map requests_in turns ++ left)) (flat_map links_in turns)
serve before [] after left are = tt
serve before (Process link earlier last ∷ turns) after left (between, is, are) =
    let others : List Wanted = flat_map requests_in turns ++ left in
    subst (λ (w : List Wanted). Each (IsServedOf w) (link ∷ flat_map links_in turns)) (sym (append_assoc (earlier ++ last ∷ []) (flat_map requests_in turns) left)) (
      record { earlier = earlier; last = last; serves = is.0; wanted_so = begins (earlier ++ last ∷ []) others },
      each_so (IsServedOf others) (IsServedOf ((earlier ++ last ∷ []) ++ others)) (flat_map links_in turns) (served_behind (earlier ++ last ∷ []) others) (serve between turns after left are),
    )
serve before (Failure entry wanted ∷ turns) after left (between, is, are) =
    let others : List Wanted = flat_map requests_in turns ++ left in
    each_so (IsServedOf others) (IsServedOf (wanted ∷ others)) (flat_map links_in turns) (served_behind (wanted ∷ []) others) (serve between turns after left are)

pub processes_serve : ProcessesServe
processes_serve wanted before links unstarted after ran =
    subst (λ (w : List Wanted). Each (IsServedOf w) links) (sym ran.in_order)
    (subst (λ (l : List LinkSeen). Each (IsServedOf (flat_map requests_in ran.turns ++ ran.left)) l) (sym ran.links_are) (serve before ran.turns after ran.left ran.are_turns))

cause_of : (wanted : List Wanted) (link : LinkSeen) → IsServedOf wanted link → HasCause link
cause_of wanted link is = record { stop = is.serves.stopped; write_failed = is.serves.written.cause }

pub stops_have_causes : StopsHaveCauses
stops_have_causes wanted before links unstarted after ran =
    each_so (IsServedOf wanted) HasCause links (cause_of wanted) (processes_serve wanted before links unstarted after ran)

-- what was started

gave_more : (before between after : Option (List (List ℕ))) (link : LinkSeen) (links : List LinkSeen) → TakesLink before between (whole_of link)
    → GaveLinks between links after → GaveLinks before (link ∷ links) after
gave_more None between after link links taken gave = subst (λ (b : Option (List (List ℕ))). GaveLinks b links after) taken gave
gave_more (Some []) between after link links taken gave = absurd taken
gave_more (Some (first ∷ more)) between after link links taken gave =
    let rest = subst (λ (b : Option (List (List ℕ))). GaveLinks b links after) taken.0 gave in (
      first ∷ rest.0,
      rest.1,
      ap (λ (l : List (List ℕ)). first ∷ l) rest.2,
      rest.3,
      ap (λ (o : Option (List ℕ)). o ∷ map Some rest.0) (sym taken.1) ∙ ap (λ (l : List (Option (List ℕ))). whole_of link ∷ l) rest.4,
    )

no_links_given : (links : Option (List (List ℕ))) → GaveLinks links [] links
no_links_given None = refl
no_links_given (Some told) = ([], told, refl, refl, refl)

gave : (before : StarterSeen) (turns : List Turn) (after : StarterSeen) → AreTurns before turns after → GaveLinks before.links (flat_map links_in turns) after.links
gave before [] after are = subst (λ (s : StarterSeen). GaveLinks before.links [] s.links) (sym are) (no_links_given before.links)
gave before (Process link earlier last ∷ turns) after (between, is, are) =
    gave_more before.links between.links after.links link (flat_map links_in turns) is.1.link_taken (gave between turns after are)
gave before (Failure entry wanted ∷ turns) after (between, is, are) =
    subst (λ (l : Option (List (List ℕ))). GaveLinks l (flat_map links_in turns) after.links) is.links (gave between turns after are)

pub runs_give_links : RunsGiveLinks
runs_give_links wanted before links unstarted after ran =
    subst (λ (l : List LinkSeen). GaveLinks before.links l after.links) (sym ran.links_are) (gave before ran.turns after ran.are_turns)

started_in : Turn → List (List ℕ)
started_in (Process link earlier last) = first_command earlier last ∷ []
started_in (Failure entry wanted) = []

failed_in : Turn → List (List ℕ)
failed_in (Process link earlier last) = []
failed_in (Failure entry wanted) = wanted.command ∷ []

no_more_commands : (commands : Option Commands) → commands ≡ then_commands commands [] []
no_more_commands None = refl
no_more_commands (Some known) = rw (append-nil known.started, append-nil known.failed) refl

one_started : (before between after : Option Commands) (command : List ℕ) (started failed : List (List ℕ)) → between ≡ then_started before command
    → after ≡ then_commands between started failed → after ≡ then_commands before (command ∷ started) failed
one_started None between after command started failed first then = then ∙ ap (λ (c : Option Commands). then_commands c started failed) first
one_started (Some known) between after command started failed first then =
    then ∙ ap (λ (c : Option Commands). then_commands c started failed) first ∙ rw (append_assoc known.started (command ∷ []) started) refl

one_failed : (before between after : Option Commands) (command : List ℕ) (started failed : List (List ℕ)) → between ≡ then_failed before command
    → after ≡ then_commands between started failed → after ≡ then_commands before started (command ∷ failed)
one_failed None between after command started failed first then = then ∙ ap (λ (c : Option Commands). then_commands c started failed) first
one_failed (Some known) between after command started failed first then =
    then ∙ ap (λ (c : Option Commands). then_commands c started failed) first ∙ rw (append_assoc known.failed (command ∷ []) failed) refl

commands_are : (before : StarterSeen) (turns : List Turn) (after : StarterSeen) → AreTurns before turns after
    → after.commands ≡ then_commands before.commands (flat_map started_in turns) (flat_map failed_in turns)
unfolding started_in failed_in
commands_are before [] after are = ap (λ (s : StarterSeen). s.commands) are ∙ no_more_commands before.commands
commands_are before (Process link earlier last ∷ turns) after (between, is, are) =
    one_started before.commands between.commands after.commands (first_command earlier last) _ _ is.1.commands (commands_are between turns after are)
commands_are before (Failure entry wanted ∷ turns) after (between, is, are) =
    one_failed before.commands between.commands after.commands wanted.command _ _ is.commands (commands_are between turns after are)

pairs_so : {A B : Type 0} (P Q : A → B → Type 0) (xs : List A) (ys : List B) → ((x : A) (y : B) → P x y → Q x y) → EachPair P xs ys → EachPair Q xs ys
pairs_so P Q [] [] so each = tt
pairs_so P Q (x ∷ xs) (y ∷ ys) so each = (so x y each.0, pairs_so P Q xs ys so each.1)
pairs_so P Q [] (y ∷ ys) so each = absurd each
pairs_so P Q (x ∷ xs) [] so each = absurd each

started_behind : (front wanted : List Wanted) (link : LinkSeen) (command : List ℕ) → IsStartedFor wanted link command → IsStartedFor (front ++ wanted) link command
started_behind front wanted link command is = record {
  earlier = is.earlier;
  last = is.last;
  serves = is.serves;
  wanted_so = follows front (is.earlier ++ is.last ∷ []) wanted is.wanted_so;
  of_first = is.of_first;
}

failed_behind : (front wanted : List Wanted) (entry : Unstarted) (command : List ℕ) → IsFailedFor wanted entry command → IsFailedFor (front ++ wanted) entry command
failed_behind front wanted entry command is = record {
  request = is.request;
  of_key = is.of_key;
  of_command = is.of_command;
  wanted_so = follows front (is.request ∷ []) wanted is.wanted_so;
}

started_for : (before : StarterSeen) (turns : List Turn) (after : StarterSeen) (left : List Wanted) → AreTurns before turns after
    → EachPair (IsStartedFor (flat_map requests_in turns ++ left)) (flat_map links_in turns) (flat_map started_in turns)
unfolding started_in
started_for before [] after left are = tt
started_for before (Process link earlier last ∷ turns) after left (between, is, are) =
    let others : List Wanted = flat_map requests_in turns ++ left in
    subst (λ (w : List Wanted). EachPair (IsStartedFor w) (link ∷ flat_map links_in turns) (first_command earlier last ∷ flat_map started_in turns))
    (sym (append_assoc (earlier ++ last ∷ []) (flat_map requests_in turns) left)) (
      record { earlier = earlier; last = last; serves = is.0; wanted_so = begins (earlier ++ last ∷ []) others; of_first = refl },
      pairs_so (IsStartedFor others) (IsStartedFor ((earlier ++ last ∷ []) ++ others)) _ _ (started_behind (earlier ++ last ∷ []) others) (started_for between turns after left are),
    )
started_for before (Failure entry wanted ∷ turns) after left (between, is, are) =
    let others : List Wanted = flat_map requests_in turns ++ left in
    pairs_so (IsStartedFor others) (IsStartedFor (wanted ∷ others)) _ _ (started_behind (wanted ∷ []) others) (started_for between turns after left are)

failed_for : (before : StarterSeen) (turns : List Turn) (after : StarterSeen) (left : List Wanted) → AreTurns before turns after
    → EachPair (IsFailedFor (flat_map requests_in turns ++ left)) (flat_map unstarted_in turns) (flat_map failed_in turns)
unfolding failed_in
failed_for before [] after left are = tt
failed_for before (Process link earlier last ∷ turns) after left (between, is, are) =
    let others : List Wanted = flat_map requests_in turns ++ left in
    subst (λ (w : List Wanted). EachPair (IsFailedFor w) (flat_map unstarted_in turns) (flat_map failed_in turns))
    (sym (append_assoc (earlier ++ last ∷ []) (flat_map requests_in turns) left))
    (pairs_so (IsFailedFor others) (IsFailedFor ((earlier ++ last ∷ []) ++ others)) _ _ (failed_behind (earlier ++ last ∷ []) others) (failed_for between turns after left are))
failed_for before (Failure entry wanted ∷ turns) after left (between, is, are) =
    let others : List Wanted = flat_map requests_in turns ++ left in (
      record { request = wanted; of_key = is.of_key; of_command = refl; wanted_so = begins (wanted ∷ []) others },
      pairs_so (IsFailedFor others) (IsFailedFor (wanted ∷ others)) _ _ (failed_behind (wanted ∷ []) others) (failed_for between turns after left are),
    )

pub runs_start_as_wanted : RunsStartAsWanted
runs_start_as_wanted wanted before links unstarted after ran = record {
  started = flat_map started_in ran.turns;
  started_for =
      subst (λ (w : List Wanted). EachPair (IsStartedFor w) links (flat_map started_in ran.turns)) (sym ran.in_order)
      (subst (λ (l : List LinkSeen). EachPair (IsStartedFor (flat_map requests_in ran.turns ++ ran.left)) l (flat_map started_in ran.turns)) (sym ran.links_are)
      (started_for before ran.turns after ran.left ran.are_turns));
  failed = flat_map failed_in ran.turns;
  failed_for =
      subst (λ (w : List Wanted). EachPair (IsFailedFor w) unstarted (flat_map failed_in ran.turns)) (sym ran.in_order)
      (subst (λ (u : List Unstarted). EachPair (IsFailedFor (flat_map requests_in ran.turns ++ ran.left)) u (flat_map failed_in ran.turns)) (sym ran.unstarted_are)
      (failed_for before ran.turns after ran.left ran.are_turns));
  commands = commands_are before ran.turns after ran.are_turns;
}

between_from : (from middle to : ℕ) (entries : List Unstarted) → from ≤ middle → FailedBetween middle entries to → FailedBetween from entries to
between_from from middle to [] less is = omega (arith, less, is)
between_from from middle to (entry ∷ entries) less is = (omega (arith, less, is.0), is.1, is.2, is.3)

counts_rose : (before : StarterSeen) (turns : List Turn) (after : StarterSeen) → AreTurns before turns after
    → FailedBetween before.faults (flat_map unstarted_in turns) after.faults
counts_rose before [] after are = subst (λ (s : StarterSeen). before.faults ≤ s.faults) (sym are) (le_refl before.faults)
counts_rose before (Process link earlier last ∷ turns) after (between, is, are) =
    between_from before.faults between.faults after.faults (flat_map unstarted_in turns) is.1.faults (counts_rose between turns after are)
counts_rose before (Failure entry wanted ∷ turns) after (between, is, are) =
    rw (is.count_before, is.count_after) (le_refl before.faults, is.rose, is.faults, counts_rose between turns after are)

pub failed_starts_have_causes : FailedStartsHaveCauses
failed_starts_have_causes wanted before links unstarted after ran =
    subst (λ (u : List Unstarted). FailedBetween before.faults u after.faults) (sym ran.unstarted_are) (counts_rose before ran.turns after ran.are_turns)

-- nothing is made up

some_asked : (turn : Turn) → 0 < length (requests_in turn)
some_asked (Process link earlier last) = omega (arith, length-append earlier (last ∷ []))
some_asked (Failure entry wanted) = omega arith

no_turns : (turns : List Turn) (left : List Wanted) → [] ≡ flat_map requests_in turns ++ left → turns ≡ []
no_turns [] left is = refl
no_turns (turn ∷ turns) left is =
    absurd (omega (arith, some_asked turn, ap length is, length-append (requests_in turn ++ flat_map requests_in turns) left, length-append (requests_in turn) (flat_map requests_in turns)))

pub nothing_wanted_nothing_done : NothingWantedNothingDone
nothing_wanted_nothing_done before links unstarted after ran =
    let none_taken = no_turns ran.turns ran.left ran.in_order in
    record {
      no_links = ran.links_are ∙ ap (λ (t : List Turn). flat_map links_in t) none_taken;
      none_unstarted = ran.unstarted_are ∙ ap (λ (t : List Turn). flat_map unstarted_in t) none_taken;
      untouched = subst (λ (t : List Turn). AreTurns before t after) none_taken ran.are_turns;
    }
