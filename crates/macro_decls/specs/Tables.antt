-- The entries of a table of macros: this project's own.
use Rattle.std.specs.Prelude.{◌≡◌, ℕ, List, [], ◌∷◌, ◌++◌, map, None, Vec}
use Rattle.std.specs.declared.alloc.Global.{Global}
use Rattle.macro_decls.specs.Macros.{declaration_named}
use Rattle.macro_decls.specs.declared.table.MacroDecl.{MacroDecl}

abbrev pub Entry : Type 0
Entry = Vec ℕ Global × MacroDecl

-- each declaration stands under its own name
abbrev pub AreNamed : List Entry → Type 0
AreNamed [] = Unit {0}
AreNamed (entry ∷ entries) = (entry.0.items ≡ entry.1.name) × AreNamed entries

abbrev pub declarations_in : List Entry → List MacroDecl
declarations_in entries = map (λ entry. entry.1) entries

-- no name stands twice, nor behind a declaration before
abbrev pub AreFresh : List MacroDecl → List MacroDecl → Type 0
AreFresh before [] = Unit {0}
AreFresh before (declaration ∷ others) = (declaration_named declaration.name before ≡ None) × AreFresh (before ++ declaration ∷ []) others
