use Rattle.std.proofs.Common.{◌∙◌, ◌∷◌}
use Rattle.macro_decls.proofs.Faulty.{faults-further, is_repeated, seen-more}
use Rattle.macro_decls.proofs.fault.faults_of.Goals as goal

pub macros-preserved : goal.macros-preserved
macros-preserved c =
    let own = c.one-item.result.name in
    let before = c.macros.invariant.0 in
    let covers = c.macros.invariant.1 in (
      own ∷ before,
      seen-more before own _ _ covers c.in_ok-repeated.ensures.added,
      faults-further before c.args.written.now c.macros.one-index c.one-item.result c.macros.faults.items c.put_fault.new.faults.items _ c.first_fault.result
          c.macros-test.true c.one-item.is (is_repeated before own c.in_ok-repeated.field-0 _ (covers own) c.in_ok-repeated.ensures.new) c.first_fault.ensures c.in_ok-put_fault.ensures
          ∙ c.macros.invariant.2,
    )
