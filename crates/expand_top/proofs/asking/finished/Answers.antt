use Rattle.expansion_model.specs.Table.{look}
use Rattle.expand_top.proofs.asking.finished.Goals as goal

pub returns : goal.returns
returns g c = λ macros plugins source before after way answers spent. record {
  table = look c.args.way.table;
  is_table = c.in_ok-ran.ensures.table (look c.args.way.table) way.tells;
  asks = record {
    wanted = way.wanted;
    ran = c.in_ok-ran.ensures.ran way.wanted before after way.driven;
    each = way.each;
    different = way.different;
  };
  answers = answers;
  spent = λ is. c.in_ok-ran.ensures.spent (spent is);
}
