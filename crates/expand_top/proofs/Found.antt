-- A plug-in that is found is one of those that can be started.
use Rattle.std.proofs.Common.{◌≡◌, ℕ, Bool, true, false, cond, Option, Some, None, List, [], ◌∷◌, subst}
use Rattle.std.specs.List.{All, find}
use Rattle.std.proofs.lemmas.List.Elements.{All-head, All-tail}
use Rattle.std.specs.Str.{bytes_eq}
use Rattle.swift_base.specs.declared.plugins.Plugin.{Plugin}
use Rattle.expansion_model.specs.Macros.{plugin_for}
use Rattle.expand_top.specs.Asking.{IsStartable}
use Rattle.expand_top.proofs.Promises.{none_some}

some_is : {A : Type 0} (P : A → Type 0) (x y : A) → Some x ≡ Some y → P x → P y
some_is {A} P x y is holds = let Q : Option A → Type 0 = λ o. elim o [ None ↦ Unit {0} | Some z ↦ P z ] in subst Q is holds

by_first : {A : Type 0} (P : A → Type 0) (b : Bool) (x y : A) (more : Option A) → P x → (more ≡ Some y → P y) → cond b (Some x) more ≡ Some y → P y
by_first P true x y more first others is = some_is P x y is first
by_first P false x y more first others is = others is

found : {A : Type 0} (P : A → Type 0) (test : A → Bool) (xs : List A) (y : A) → All P xs → find test xs ≡ Some y → P y
found P test [] y all is = absurd (none_some y is)
found P test (x ∷ xs) y all is =
    by_first P (test x) x y (find test xs) (All-head P x xs all) (found P test xs y (All-tail P x xs all)) is

pub startable : (module_name : List ℕ) (plugins : List Plugin) (plugin : Plugin) → All IsStartable plugins → plugin_for module_name plugins ≡ Some plugin → IsStartable plugin
startable module_name plugins plugin all is = found IsStartable (λ plugin. bytes_eq plugin.module module_name) plugins plugin all is
