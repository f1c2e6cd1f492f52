use Rattle.std.proofs.Common.{◌∙◌, ◌+◌, ◌-◌, ◌++◌, [], ap, arith, drop, true}
use Rattle.element_marks.specs.Accessors.{accessor_length, accessors_from, with_first, word_from}
use Rattle.element_marks.proofs.Walks.{behind_words, words_further}
use Rattle.element_marks.proofs.accessors.accessor_words.Goals as goal

pub accessors-preserved : goal.accessors-preserved
accessors-preserved c =
    ap (λ words. behind_words words (accessors_from true 0 (drop (c.accessors.at + c.accessor_length-length.result) c.args.marks.now)))
    (c.in_ok-push_word.ensures ∙ ap (λ l. c.accessors.words.items ++ with_first (drop (word_from 0 0 l - 1) l) []) c.behind-in-Some.ensures)
    ∙ words_further c.accessors.words.items c.accessors.at c.accessor_length-length.result c.args.marks.now (c.accessor_length-length.ensures.value ∙ ap (accessor_length true) c.behind.ensures) (omega (arith, c.if-length-eq0.false))
    ∙ c.accessors.invariant
