-- What was wanted of a driver that may go on is what it has asked.
use Rattle.std.proofs.Common.{◌≡◌, ◌∙◌, ◌⊎◌, inl, inr, sym, ap, ap₂, subst, ℕ, Option, Some, None, List, [], ◌++◌, map, append-nil}
use Rattle.std.specs.List.{flat_map}
use Rattle.std.specs.List.Sorted.{IsPermutation}
use Rattle.std.proofs.lemmas.List.{map-append}
use Rattle.std.proofs.lemmas.List.Sorted.{IsPermutation-append, IsPermutation-refl}
use Rattle.swift_base.specs.Outside.{StarterSeen}
use Rattle.link_driver.specs.Driven.{DriverSeen, IsDriven, IsRunning, IsSpent, links_in, requests_in, unstarted_in}
use Rattle.link_driver.specs.Links.{KeySteps, RunningSeen}
use Rattle.link_driver.specs.LinkTable.{asked_keys}
use Rattle.link_driver.specs.Requests.{Wanted, key_of}
use Rattle.link_driver.specs.Told.{driver_keys, running_keys}
use Rattle.link_driver.proofs.Runs.{keys_once}

running_told : (given : ℕ) (before : StarterSeen) (running : Option RunningSeen) (requests : List Wanted) (after : StarterSeen) → IsRunning given before running requests after → map key_of requests ≡ running_keys running
running_told given before None requests after is = ap (map key_of) is.0
running_told given before (Some link) requests after is = sym is.ready.asked

nothing_left : (left : List Wanted) (driver : DriverSeen) → (left ≡ []) ⊎ IsSpent driver → (IsSpent driver → ⊥) → left ≡ []
nothing_left left driver (inl none_) goes_on = none_
nothing_left left driver (inr spent) goes_on = absurd (goes_on spent)

pub wanted_is_told : (wanted : List Wanted) (before : StarterSeen) (driver : DriverSeen) (after : StarterSeen) → IsDriven wanted before driver after → (IsSpent driver → ⊥)
    → IsPermutation (map key_of wanted) (driver_keys driver)
wanted_is_told wanted before driver after is goes_on =
    let asked = flat_map requests_in is.turns in
    let all : wanted ≡ asked ++ is.requests =
    is.in_order ∙ ap (λ (l : List Wanted). asked ++ (is.requests ++ l)) (nothing_left is.left driver is.limit goes_on) ∙ ap (λ (l : List Wanted). asked ++ l) (append-nil is.requests) in
    let keys : map key_of wanted ≡ map key_of asked ++ running_keys driver.running =
    ap (map key_of) all ∙ map-append key_of asked is.requests ∙ ap (λ (l : List KeySteps). map key_of asked ++ l) (running_told _ _ driver.running is.requests after is.running) in
    let told : asked_keys (flat_map links_in is.turns) (flat_map unstarted_in is.turns) ≡ asked_keys driver.links driver.unstarted =
    ap₂ asked_keys (sym is.links) (sym is.unstarted) in
    subst (λ (l : List KeySteps). IsPermutation l (driver_keys driver)) (sym keys)
    (IsPermutation-append (map key_of asked) (asked_keys driver.links driver.unstarted) (running_keys driver.running) (running_keys driver.running)
    (subst (λ (l : List KeySteps). IsPermutation (map key_of asked) l) told (keys_once before is.turns is.between is.are_turns)) (IsPermutation-refl (running_keys driver.running)))
