use Rattle.std.proofs.Common.{◌≡◌, ◌∙◌, ◌+◌, ◌-◌, ◌*◌, ◌<◌, ◌==◌, ap, sym, subst, arith, append-nil, length, length-drop, drop, take, map, true, false, Ok, Err}
use Rattle.std.proofs.lemmas.Result.{err_from_is_err_and}
use Rattle.swift_lexer.specs.Trees.{forest_of}
use Rattle.swift_tree.specs.Outlines.{item_of}
use Rattle.element_marks.specs.Answers.{Refuses}
use Rattle.element_marks.specs.Heads.{first_is}
use Rattle.element_marks.specs.Levels.{level}
use Rattle.element_marks.specs.Sorts.{is_semicolon}
use Rattle.decl_parser.specs.declared.fault.ParseKind.TheVariants.{NotADeclaration}
use Rattle.decl_parser.specs.Faults.{fault}
use Rattle.decl_parser.specs.Parts.{prefixed}
use Rattle.decl_parser.specs.Levels.{forest_size, held, insides, items_of_list}
use Rattle.decl_parser.specs.Cut.{count_of, cut_from, head_of, item_at, one_item, start_of}
use Rattle.decl_parser.proofs.Prefixes.{refused_on}
use Rattle.decl_parser.proofs.QuietGroups.{length_level}
use Rattle.decl_parser.proofs.FrontItems.{reads_as}
use Rattle.decl_parser.proofs.Cutting.{count_positive, item_more, item_refused, no_declaration, not_zero, one_item_is, past_semicolon, rest_from, size_drop, size_take, whole_list, within_front}
use Rattle.decl_parser.proofs.items.+items.Goals as goal

pub items-items-preserved-then-first_semicolon : goal.items-items-preserved-then-first_semicolon
items-items-preserved-then-first_semicolon n c =
    let text = c.args.text.now in
    let elements = c.args.elements.now in
    let all = level text (forest_of elements) in
    let at = c.items.at in
    let here = at - c.in_ok-front.front.from in
    let within : at < length all = omega (arith, c.items-test.true, length_level text elements) in
    let reads = reads_as all c.in_ok-front.front at within c.in_ok-front.ensures in
    let rest : c.behind-rest.result.now ≡ drop here c.in_ok-front.front.marks.items = c.behind-rest.ensures ∙ ap (drop here) c.deref.ensures.value in
    let semicolon : first_is is_semicolon (drop at all) ≡ true = sym reads.semicolon ∙ sym (ap (first_is is_semicolon) rest) ∙ sym c.first_semicolon.ensures ∙ c.if-first_semicolon.true in (
      c.in_ok-front.ensures.is_front,
      ap (prefixed (map item_of c.items.items.items)) (past_semicolon c.args.place all (insides text (forest_of elements)) (held text (forest_of elements)) at within semicolon) ∙ c.items.invariant.1,
    )

pub items-returns-then-head_of-eq0 : goal.items-returns-then-head_of-eq0
items-returns-then-head_of-eq0 n c =
    let text = c.args.text.now in
    let elements = c.args.elements.now in
    let all = level text (forest_of elements) in
    let at = c.items.at in
    let here = at - c.in_ok-front.front.from in
    let within : at < length all = omega (arith, c.items-test.true, length_level text elements) in
    let reads = reads_as all c.in_ok-front.front at within c.in_ok-front.ensures in
    let rest : c.behind-rest.result.now ≡ drop here c.in_ok-front.front.marks.items = c.behind-rest.ensures ∙ ap (drop here) c.deref.ensures.value in
    let no_semicolon : first_is is_semicolon (drop at all) ≡ false = sym reads.semicolon ∙ sym (ap (first_is is_semicolon) rest) ∙ sym c.first_semicolon.ensures ∙ c.if-first_semicolon.false in
    let none : (head_of (drop at all) == 0) ≡ true = ap (λ h. h == 0) (sym reads.head ∙ sym (ap head_of rest) ∙ sym c.head_of.ensures.value ∙ c.if-head_of-eq0.true) in
    subst (λ r. Refuses r (λ outcome. outcome ≡ items_of_list c.args.place text (forest_of elements))) (sym c.fault.ensures)
    (ap (λ a. Err (fault a NotADeclaration)) (c.start_of.ensures ∙ ap start_of rest ∙ reads.start)
    ∙ ap (prefixed (map item_of c.items.items.items)) (no_declaration c.args.place all (insides text (forest_of elements)) (held text (forest_of elements)) at within no_semicolon none)
    ∙ c.items.invariant.1 ∙ whole_list c.args.place text (forest_of elements))

pub items-item_at-requires : goal.items-item_at-requires
items-item_at-requires n c =
    let marks = c.in_ok-front.front.marks.items in
    let text = c.args.text.now in
    let elements = c.args.elements.now in
    let all = level text (forest_of elements) in
    let at = c.items.at in
    let here = at - c.in_ok-front.front.from in
    let within : at < length all = omega (arith, c.items-test.true, length_level text elements) in
    let reads = reads_as all c.in_ok-front.front at within c.in_ok-front.ensures in
    let count = c.count_of-count.result in
    let own : c.upto-else-head_of-eq0.result.now ≡ take count (drop at elements) = c.upto-else-head_of-eq0.ensures ∙ ap (take count) c.behind-else-head_of-eq0.ensures in
    let list : c.upto.result.now ≡ take (here + count) marks = c.upto.ensures ∙ ap (take (here + count)) c.deref-else-head_of-eq0.ensures.value in
    let measure : 3 * forest_size (forest_of elements) + 2 ≡ n = c.decreases in
    let falls : 3 * forest_size (forest_of c.upto-else-head_of-eq0.result.now) + 1 < n =
    omega (arith, measure, ap (λ es. forest_size (forest_of es)) own, size_take count (drop at elements), size_drop at elements) in
    (falls, (omega (arith, ap length list, within_front here count marks reads.within), c.requires))

pub items-returns-in_err-item : goal.items-returns-in_err-item
items-returns-in_err-item n c =
    let marks = c.in_ok-front.front.marks.items in
    let text = c.args.text.now in
    let elements = c.args.elements.now in
    let all = level text (forest_of elements) in
    let at = c.items.at in
    let here = at - c.in_ok-front.front.from in
    let within : at < length all = omega (arith, c.items-test.true, length_level text elements) in
    let reads = reads_as all c.in_ok-front.front at within c.in_ok-front.ensures in
    let rest : c.behind-rest.result.now ≡ drop here marks = c.behind-rest.ensures ∙ ap (drop here) c.deref.ensures.value in
    let no_semicolon : first_is is_semicolon (drop at all) ≡ false = sym reads.semicolon ∙ sym (ap (first_is is_semicolon) rest) ∙ sym c.first_semicolon.ensures ∙ c.if-first_semicolon.false in
    let count = c.count_of-count.result in
    let head : c.head_of.result ≡ head_of (drop at all) = c.head_of.ensures.value ∙ ap head_of rest ∙ reads.head in
    let some : 0 < head_of (drop at all) = omega (arith, c.if-head_of-eq0.false, head) in
    let counted : count ≡ count_of (drop at all) = c.count_of-count.ensures.value ∙ ap count_of rest ∙ reads.count in
    let list : c.upto.result.now ≡ take (here + count) marks = c.upto.ensures ∙ ap (take (here + count)) c.deref-else-head_of-eq0.ensures.value in
    let next : c.behind-else-head_of-eq0-2.result.now ≡ drop (here + count) marks = c.behind-else-head_of-eq0-2.ensures ∙ ap (drop (here + count)) c.deref-else-head_of-eq0-2.ensures.value in
    let own : c.upto-else-head_of-eq0.result.now ≡ take count (drop at elements) = c.upto-else-head_of-eq0.ensures ∙ ap (take count) c.behind-else-head_of-eq0.ensures in
    let one : item_at c.args.place c.upto.result.now here c.behind-else-head_of-eq0-2.result.now (insides text (forest_of c.upto-else-head_of-eq0.result.now)) (held text (forest_of c.upto-else-head_of-eq0.result.now)) ≡ one_item c.args.place all (insides text (forest_of elements)) (held text (forest_of elements)) at =
    (λ i. item_at c.args.place (list i) here (next i) (insides text (forest_of (own i))) (held text (forest_of (own i))))
    ∙ reads.item c.args.place count counted (insides text (forest_of (take count (drop at elements)))) (held text (forest_of (take count (drop at elements))))
    ∙ one_item_is c.args.place all text elements at count counted in
    let p = err_from_is_err_and c.from_residual-in_err-item.result c.from_residual-in_err-item.ensures.1 in
    rw (p.1, p.2) (refused_on c.in_err-item.field-0.0 (item_at c.args.place c.upto.result.now here c.behind-else-head_of-eq0-2.result.now (insides text (forest_of c.upto-else-head_of-eq0.result.now)) (held text (forest_of c.upto-else-head_of-eq0.result.now))) (items_of_list c.args.place text (forest_of elements))
    (λ found read.
    item_refused c.args.place all (insides text (forest_of elements)) (held text (forest_of elements)) (map item_of c.items.items.items) found at within no_semicolon (not_zero (head_of (drop at all)) some) (count_positive (drop at all) some) (read ∙ one)
    ∙ c.items.invariant.1 ∙ whole_list c.args.place text (forest_of elements))
    c.in_err-item.ensures)

pub items-items-preserved : goal.items-items-preserved
items-items-preserved n c =
    let marks = c.in_ok-front.front.marks.items in
    let text = c.args.text.now in
    let elements = c.args.elements.now in
    let all = level text (forest_of elements) in
    let at = c.items.at in
    let here = at - c.in_ok-front.front.from in
    let within : at < length all = omega (arith, c.items-test.true, length_level text elements) in
    let reads = reads_as all c.in_ok-front.front at within c.in_ok-front.ensures in
    let rest : c.behind-rest.result.now ≡ drop here marks = c.behind-rest.ensures ∙ ap (drop here) c.deref.ensures.value in
    let no_semicolon : first_is is_semicolon (drop at all) ≡ false = sym reads.semicolon ∙ sym (ap (first_is is_semicolon) rest) ∙ sym c.first_semicolon.ensures ∙ c.if-first_semicolon.false in
    let count = c.count_of-count.result in
    let head : c.head_of.result ≡ head_of (drop at all) = c.head_of.ensures.value ∙ ap head_of rest ∙ reads.head in
    let some : 0 < head_of (drop at all) = omega (arith, c.if-head_of-eq0.false, head) in
    let counted : count ≡ count_of (drop at all) = c.count_of-count.ensures.value ∙ ap count_of rest ∙ reads.count in
    let list : c.upto.result.now ≡ take (here + count) marks = c.upto.ensures ∙ ap (take (here + count)) c.deref-else-head_of-eq0.ensures.value in
    let next : c.behind-else-head_of-eq0-2.result.now ≡ drop (here + count) marks = c.behind-else-head_of-eq0-2.ensures ∙ ap (drop (here + count)) c.deref-else-head_of-eq0-2.ensures.value in
    let own : c.upto-else-head_of-eq0.result.now ≡ take count (drop at elements) = c.upto-else-head_of-eq0.ensures ∙ ap (take count) c.behind-else-head_of-eq0.ensures in
    let one : item_at c.args.place c.upto.result.now here c.behind-else-head_of-eq0-2.result.now (insides text (forest_of c.upto-else-head_of-eq0.result.now)) (held text (forest_of c.upto-else-head_of-eq0.result.now)) ≡ one_item c.args.place all (insides text (forest_of elements)) (held text (forest_of elements)) at =
    (λ i. item_at c.args.place (list i) here (next i) (insides text (forest_of (own i))) (held text (forest_of (own i))))
    ∙ reads.item c.args.place count counted (insides text (forest_of (take count (drop at elements)))) (held text (forest_of (take count (drop at elements))))
    ∙ one_item_is c.args.place all text elements at count counted in
    let positive : 0 < count = omega (arith, counted, count_positive (drop at all) some) in (
      c.in_ok-front.ensures.is_front,
      ap (λ l. prefixed (map item_of l) (rest_from c.args.place all (insides text (forest_of elements)) (held text (forest_of elements)) (at + count))) c.in_ok-add-2.ensures
          ∙ item_more c.args.place all (insides text (forest_of elements)) (held text (forest_of elements)) c.items.items.items c.in_ok-item.item at count within no_semicolon (not_zero (head_of (drop at all)) some) counted positive (c.in_ok-item.ensures ∙ one)
          ∙ c.items.invariant.1,
    )

pub items-returns : goal.items-returns
items-returns n c =
    let text = c.args.text.now in
    let elements = c.args.elements.now in
    let all = level text (forest_of elements) in
    let at = c.items.at in
    let none : length all - at ≡ 0 = omega (arith, c.items-test.false, length_level text elements) in
    ap Ok (sym (append-nil (map item_of c.items.items.items)))
    ∙ ap (λ left. prefixed (map item_of c.items.items.items) (cut_from c.args.place all (insides text (forest_of elements)) (held text (forest_of elements)) at 0 left)) (sym none)
    ∙ c.items.invariant.1 ∙ whole_list c.args.place text (forest_of elements)

pub items-overflow_add-at : goal.items-overflow_add-at
items-overflow_add-at n c =
    let left : length c.behind.result.now ≡ length c.args.elements.now - c.items.at = ap length c.behind.ensures ∙ length-drop c.items.at c.args.elements.now in
    omega (arith, c.in-Some.ensures.bound, left, c.items-test.true)

pub items-items-smaller-in-Some : goal.items-items-smaller-in-Some
items-items-smaller-in-Some n c =
    let read = c.in-Some.ensures.read c.args.place c.args.elements.now c.items.at (sym c.behind.ensures) in
    omega (arith, read.begins.some, c.items-test.true)

pub items-items-preserved-in-Some : goal.items-items-preserved-in-Some
items-items-preserved-in-Some n c =
    let text = c.args.text.now in
    let elements = c.args.elements.now in
    let all = level text (forest_of elements) in
    let read = c.in-Some.ensures.read c.args.place elements c.items.at (sym c.behind.ensures) in
    let begins = read.begins in (
      c.items.invariant.0,
      ap (λ l. prefixed (map item_of l) (rest_from c.args.place all (insides text (forest_of elements)) (held text (forest_of elements)) (c.items.at + c.in-Some.read.count))) c.in_ok-add.ensures
          ∙ item_more c.args.place all (insides text (forest_of elements)) (held text (forest_of elements)) c.items.items.items c.in-Some.read.item c.items.at c.in-Some.read.count begins.within begins.no_semicolon begins.some_head begins.counted begins.some read.item
          ∙ c.items.invariant.1,
    )
