use Rattle.std.proofs.Common.{rules}
use Rattle.std.proofs.lemmas.List.Sorted.{answers_always, IsNonDecreasingBy-from_sort}
use Rattle.result_splice.specs.Edits.{rank}
use Rattle.result_splice.proofs.Sorting.{ordered_from_sort}
use Rattle.result_splice.proofs.edit.in_order.Goals as goal

pub returns : goal.returns
returns c =
    let keys = answers_always _ _ _ (λ f a r next called. search rules) in
    ordered_from_sort _ _ (IsNonDecreasingBy-from_sort rank _ (c.in_ok-sort_by_key.ensures.sorted rank keys)) (c.sort_by_key.ensures.stable rank keys)
