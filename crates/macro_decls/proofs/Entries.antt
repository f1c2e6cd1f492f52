-- The entries of a table by their names.
use Rattle.std.proofs.Common.{◌≡◌, ℕ, cond, Some, None, List, [], ◌∷◌, ◌++◌, refl, ap, ◌∙◌}
use Rattle.std.specs.Str.{bytes_eq}
use Rattle.std.specs.Map.{lookup}
use Rattle.std.specs.declared.vec.Vec.{Vec}
use Rattle.std.specs.declared.alloc.Global.{Global}
use Rattle.std.specs.Cmp.Lexicographic.{pointwise, nat_list_eq_equiv}
use Rattle.std.specs.Prelude.{nat_eq}
use Rattle.macro_decls.specs.declared.table.MacroDecl.{MacroDecl}
use Rattle.macro_decls.specs.Macros.{declaration_named}
use Rattle.macro_decls.specs.Tables.{Entry, AreNamed, declarations_in}

pub eq-sym : (one other : List ℕ) → pointwise nat_eq one other ≡ pointwise nat_eq other one
eq-sym one other = nat_list_eq_equiv.symm one other

-- what is found under a name is the declaration of that name
pub find_entry : (name : List ℕ) (entries : List Entry) → AreNamed entries
    → lookup (λ key. pointwise nat_eq name key.items) entries ≡ declaration_named name (declarations_in entries)
find_entry name [] named = refl
find_entry name (entry ∷ entries) named =
    ap (λ b. cond b (Some entry.1) (lookup (λ key. pointwise nat_eq name key.items) entries)) (ap (pointwise nat_eq name) named.0 ∙ eq-sym name entry.1.name)
    ∙ ap (cond (bytes_eq entry.1.name name) (Some entry.1)) (find_entry name entries named.1)

-- one more entry at the end, under its own name
pub named-more : (entries : List Entry) (entry : Entry) → AreNamed entries → entry.0.items ≡ entry.1.name → AreNamed (entries ++ entry ∷ [])
named-more [] entry named own = (own, tt)
named-more (first ∷ entries) entry named own = (named.0, named-more entries entry named.1 own)

-- no entry has the key of a fresh declaration
pub fresh_key : (entries : List Entry) (key : Vec ℕ Global) (declaration : MacroDecl) → key.items ≡ declaration.name → AreNamed entries
    → declaration_named declaration.name (declarations_in entries) ≡ None → lookup (λ (other : Vec ℕ Global). pointwise nat_eq key.items other.items) entries ≡ None
fresh_key entries key declaration own named fresh =
    find_entry key.items entries named ∙ ap (λ name. declaration_named name (declarations_in entries)) own ∙ fresh
