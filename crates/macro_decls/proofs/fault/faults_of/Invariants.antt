use Rattle.std.proofs.Common.{◌≡◌, ◌++◌, ℕ, List, [], drop}
use Rattle.std.specs.Str.{bytes_eq}
use Rattle.indexmap.specs.IndexSet.{contains}
use Rattle.macro_decls.specs.Faults.{faults_from, is_among}
use Rattle.macro_decls.proofs.fault.faults_of.Given as goal

abbrev pub invariant-macros : goal.invariant-macros
invariant-macros l =
    (before : List (List ℕ)) × ((name : List ℕ) → contains bytes_eq l.names name ≡ is_among before name)
    × (l.faults.items ++ faults_from before (drop l.one-index l.written) ≡ faults_from [] l.written)
