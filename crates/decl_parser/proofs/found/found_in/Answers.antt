use Rattle.std.proofs.Common.{◌≡◌, ◌∙◌, ◌-◌, [], ap, arith, length}
use Rattle.std.proofs.lemmas.Result.{IfOk-weaker}
use Rattle.decl_parser.specs.Found.{found_from, found_in, seen}
use Rattle.decl_parser.proofs.found.found_in.Goals as goal

pub returns : goal.returns
unfolding found_in
returns c =
    let marks = c.args.marks.now in
    let insides = c.args.insides.now in
    let all : length marks - 0 ≡ length marks = omega arith in
    IfOk-weaker c.found.result (λ findings. seen findings ≡ found_from c.new.result.starts.now 0 marks 0 0 (length marks - 0) insides) (λ findings. seen findings ≡ found_in marks insides)
    (λ findings is. is ∙ ap (λ b. found_from b 0 marks 0 0 (length marks - 0) insides) c.new.ensures.starts ∙ ap (λ n. found_from [] 0 marks 0 0 n insides) all) c.found.ensures
