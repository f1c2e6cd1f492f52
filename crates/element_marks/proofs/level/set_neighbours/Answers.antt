use Rattle.std.proofs.Common.{◌≡◌, ◌∙◌, ◌-◌, ◌+◌, ◌<◌, ◌≤◌, ◌∷◌, ap, sym, subst, arith, drop, get_or, length, length-set, set, if◌then◌else◌}
use Rattle.element_marks.specs.Heads.{angles, with_angles, with_modifiers}
use Rattle.element_marks.specs.Passes.{HeadsKnown, closes_of, opens_of}
use Rattle.element_marks.proofs.AnglePart.{IsTable, balance_step, depth_room, not_below, part_is, table_step}
use Rattle.element_marks.proofs.Backward.{blank, here_is, left_is}
use Rattle.element_marks.proofs.Settling.{settled_more}
use Rattle.element_marks.proofs.Starting.{heads_known, settled}
use Rattle.element_marks.proofs.level.set_neighbours.Goals as goal

pub offset_bounds-behind-depth : goal.offset_bounds-behind-depth
offset_bounds-behind-depth c =
    let room : c.elements.depth ≤ opens_of c.args.marks.now + closes_of c.args.marks.now = depth_room c.elements.at c.elements.depth c.args.marks.now c.elements.invariant.balance in
    omega (arith, room, c.requires.few)

pub bounds-behind-depth : goal.bounds-behind-depth
bounds-behind-depth c =
    let room : c.elements.depth ≤ opens_of c.args.marks.now + closes_of c.args.marks.now = depth_room c.elements.at c.elements.depth c.args.marks.now c.elements.invariant.balance in
    omega (arith, room, c.elements.invariant.size)

pub depth_before-depth-requires-clause-small : goal.depth_before-depth-requires-clause-small
depth_before-depth-requires-clause-small c =
    let room : c.elements.depth ≤ opens_of c.args.marks.now + closes_of c.args.marks.now = depth_room c.elements.at c.elements.depth c.args.marks.now c.elements.invariant.balance in
    omega (arith, room, c.requires.few)

pub depth_before-depth-requires-clause-not_below : goal.depth_before-depth-requires-clause-not_below
depth_before-depth-requires-clause-not_below c =
    let here : drop (c.elements.at - 1) c.args.marks.now ≡ get_or c.elements.marks (c.elements.at - 1) blank ∷ drop c.elements.at c.args.marks.now =
    here_is settled c.elements.at c.args.marks.now c.elements.marks blank c.elements-test.true c.elements.invariant.within c.elements.invariant.done in
    not_below c.elements.at c.elements.depth c.args.marks.now (get_or c.elements.marks (c.elements.at - 1) blank) here c.elements.invariant.balance

pub offset_bounds-behind-depth-in-elements : goal.offset_bounds-behind-depth-in-elements
offset_bounds-behind-depth-in-elements c =
    let here : drop (c.elements.at - 1) c.args.marks.now ≡ get_or c.elements.marks (c.elements.at - 1) blank ∷ drop c.elements.at c.args.marks.now =
    here_is settled c.elements.at c.args.marks.now c.elements.marks blank c.elements-test.true c.elements.invariant.within c.elements.invariant.done in
    let balance : c.depth_before-depth.result + opens_of (drop (c.elements.at - 1) c.args.marks.now) ≡ opens_of c.args.marks.now + closes_of (drop (c.elements.at - 1) c.args.marks.now) =
    balance_step c.elements.at c.elements.depth c.depth_before-depth.result c.args.marks.now (get_or c.elements.marks (c.elements.at - 1) blank) here c.elements.invariant.balance c.depth_before-depth.ensures in
    let next : c.depth_before-depth.result ≤ opens_of c.args.marks.now + closes_of c.args.marks.now = depth_room (c.elements.at - 1) c.depth_before-depth.result c.args.marks.now balance in
    omega (arith, next, c.requires.few)

pub bounds-behind-depth-in-elements : goal.bounds-behind-depth-in-elements
bounds-behind-depth-in-elements c =
    let here : drop (c.elements.at - 1) c.args.marks.now ≡ get_or c.elements.marks (c.elements.at - 1) blank ∷ drop c.elements.at c.args.marks.now =
    here_is settled c.elements.at c.args.marks.now c.elements.marks blank c.elements-test.true c.elements.invariant.within c.elements.invariant.done in
    let balance : c.depth_before-depth.result + opens_of (drop (c.elements.at - 1) c.args.marks.now) ≡ opens_of c.args.marks.now + closes_of (drop (c.elements.at - 1) c.args.marks.now) =
    balance_step c.elements.at c.elements.depth c.depth_before-depth.result c.args.marks.now (get_or c.elements.marks (c.elements.at - 1) blank) here c.elements.invariant.balance c.depth_before-depth.ensures in
    let next : c.depth_before-depth.result ≤ opens_of c.args.marks.now + closes_of c.args.marks.now = depth_room (c.elements.at - 1) c.depth_before-depth.result c.args.marks.now balance in
    omega (arith, next, c.elements.invariant.size, length-set c.elements.behind c.elements.depth c.elements.at)

pub settle-requires-clause-known : goal.settle-requires-clause-known
settle-requires-clause-known c =
    let next : c.elements.at ≡ c.elements.at - 1 + 1 = omega (arith, c.elements-test.true) in
    subst HeadsKnown
    (ap (λ n. drop n c.elements.marks) next) (subst HeadsKnown (sym (left_is settled c.elements.at c.args.marks.now c.elements.marks c.elements.invariant.within c.elements.invariant.done))
    (heads_known (with_modifiers (with_angles (drop c.elements.at c.args.marks.now)))))

pub elements-preserved : goal.elements-preserved
elements-preserved c =
    let before = get_or c.elements.marks (c.elements.at - 1) blank in
    let behind = drop c.elements.at c.args.marks.now in
    let depth = c.depth_before-depth.result in
    let here : drop (c.elements.at - 1) c.args.marks.now ≡ before ∷ behind =
    here_is settled c.elements.at c.args.marks.now c.elements.marks blank c.elements-test.true c.elements.invariant.within c.elements.invariant.done in
    let balance : depth + opens_of (drop (c.elements.at - 1) c.args.marks.now) ≡ opens_of c.args.marks.now + closes_of (drop (c.elements.at - 1) c.args.marks.now) =
    balance_step c.elements.at c.elements.depth depth c.args.marks.now before here c.elements.invariant.balance c.depth_before-depth.ensures in
    let next : depth ≤ opens_of c.args.marks.now + closes_of c.args.marks.now = depth_room (c.elements.at - 1) depth c.args.marks.now balance in
    let table : IsTable (set c.elements.behind c.elements.depth c.elements.at) (c.elements.at - 1) depth (before ∷ behind) =
    table_step c.elements.behind c.elements.at c.elements.depth depth before behind c.elements-test.true c.elements.invariant.table c.depth_before-depth.ensures in
    let room : depth < length (set c.elements.behind c.elements.depth c.elements.at) = omega (arith, next, c.elements.invariant.size, length-set c.elements.behind c.elements.depth c.elements.at) in
    let part : (if before.begins_angle then get_or (set c.elements.behind c.elements.depth c.elements.at) depth 0 - (c.elements.at - 1) else 0) ≡ angles (before ∷ behind) =
    part_is (set c.elements.behind c.elements.depth c.elements.at) (c.elements.at - 1) depth before behind table room in
    record {
      within = omega arith;
      done = settled_more _ c.elements.at c.args.marks.now c.elements.marks c.settle.new.marks c.elements-test.true c.elements.invariant.within c.elements.invariant.done part c.settle.ensures;
      size = length-set c.elements.behind c.elements.depth c.elements.at ∙ c.elements.invariant.size;
      table = subst (IsTable (set c.elements.behind c.elements.depth c.elements.at) (c.elements.at - 1) depth) (sym here) table;
      balance = balance;
      shape = c.settle.auto.marks ∙ c.elements.invariant.shape;
    }
