use Rattle.std.proofs.Common.{◌≡◌, ◌∙◌, ◌+◌, ℕ, suc, ap, arith, not, List}
use Rattle.std.specs.Prelude.{count_by}
use Rattle.std.proofs.lemmas.List.Sums.{length-filter}
use Rattle.expansion_model.specs.Buffers.{buffer_seen, is_among}
use Rattle.expansion_model.specs.Table.{look}
use Rattle.expansion_model.specs.Visit.{pairs_of, room, visit, visit_to}
use Rattle.expansion_model.specs.Visited.{visited_of}
use Rattle.expansion_model.specs.declared.buffer.Ancestor.{Ancestor}
use Rattle.expansion_model.proofs.visiting.visit.Goals as goal

pub returns : goal.returns
unfolding visit
returns c =
    let ancestors = c.args.buffer.now.ancestors in
    let counted : c.count_free-free.result ≡ count_by (λ pair. not (is_among pair ancestors)) (pairs_of c.args.macros.now) =
    c.count_free-free.ensures.count ∙ ap (λ (l : List Ancestor). count_by (λ pair. not (is_among pair l)) c.deref.result.now) c.items.ensures
    ∙ ap (λ (l : List Ancestor). count_by (λ pair. not (is_among pair ancestors)) l) (c.deref.ensures.value ∙ c.in_ok-pairs.ensures) in
    let depth : c.count_free-free.result + 1 ≡ suc (room c.args.macros.now ancestors) =
    omega (arith, counted, length-filter (λ pair. not (is_among pair ancestors)) (pairs_of c.args.macros.now)) in
    c.in_ok-visited.ensures ∙ ap (λ (n : ℕ). visited_of (look c.args.table.now) (visit_to c.args.macros.now c.args.plugins.now (look c.args.table.now) n (buffer_seen c.args.buffer.now))) depth
