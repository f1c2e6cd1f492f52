-- What the comparisons of one step compute: those of its offset, its role and its member number, in this order.
use Rattle.std.specs.Prelude.{Bool}
use Rattle.std.specs.Hash.{HashWrites}
use Rattle.std.specs.declared.cmp.Ordering.{Ordering}
use Rattle.unique_names.specs.declared.step.KeyStep.{KeyStep}
use Rattle.unique_names.specs.contracts.step.KeyStepPartialEq.TheImpl as equality
use Rattle.unique_names.specs.contracts.step.KeyStepOrd.TheImpl as order
use Rattle.unique_names.specs.contracts.step.KeyStepHash.TheImpl as hashing

abbrev pub step_eq : KeyStep → KeyStep → Bool
step_eq = (equality.ghosts).eq

abbrev pub step_cmp : KeyStep → KeyStep → Ordering
step_cmp = (order.ghosts).cmp

abbrev pub step_hash : KeyStep → HashWrites
step_hash = (hashing.ghosts).hash_input
