use Rattle.std.proofs.Common.{ℕ, List, sym, subst}
use Rattle.std.specs.Str.{IsUtf8}
use Rattle.expand_top.proofs.Found.{startable}
use Rattle.expand_top.proofs.asking.command_for.Goals as goal

pub unreachable-requires : goal.unreachable-requires
unreachable-requires c =
    c.in-Err.ensures.cases.0 (subst (λ (bytes : List ℕ). IsUtf8 bytes) (sym c.bytes.ensures)
    (startable _ _ c.in-Some.plugin.now c.requires (sym c.in-Some.ensures)))
