-- What contracts see of readers, writers, files and starters. This project's own.
use Rattle.std.specs.Prelude.{◌≡◌, ℕ, Option, Some, None, List, [], ◌∷◌, ◌++◌, length}
use Rattle.swift_base.specs.Told.{Tells}

-- A reader: how often it failed, how often it came to its end, and what it has left, where it tells that.
pub record SourceSeen : Type 0 where
  pub faults : ℕ
  pub ends : ℕ
  pub left : Option (List ℕ)

-- A writer: how often it failed, what it holds, and how much it held when it was closed, `Some None` if it wasn't.
pub record SinkSeen : Type 0 where
  pub faults : ℕ
  pub held : Option (List ℕ)
  pub closing : Option (Option ℕ)

-- Files: how often one could not be read, the bytes under each name, and the names asked for.
pub record FilesSeen : Type 0 where
  pub faults : ℕ
  pub contents : Option (List ℕ → Option (List ℕ))
  pub names : Option (List (List ℕ))

-- The commands of the starts that succeeded, and of those that failed.
pub record Commands : Type 0 where
  pub started : List (List ℕ)
  pub failed : List (List ℕ)

-- A starter: how often a start failed, the bytes of its links to come, and the commands that it was given.
pub record StarterSeen : Type 0 where
  pub faults : ℕ
  pub links : Option (List (List ℕ))
  pub commands : Option Commands

-- what is left is nothing, where it is told
abbrev pub IsAtEnd : Option (List ℕ) → Type 0
IsAtEnd left = Tells left (λ bytes. bytes ≡ [])

-- The first call with the empty piece is kept, as the number of bytes held by then.
abbrev pub IsClosedBy : Option (List ℕ) → Option (Option ℕ) → Option (Option ℕ) → Type 0
IsClosedBy held None now = now ≡ None
IsClosedBy held (Some (Some at)) now = now ≡ Some (Some at)
IsClosedBy held (Some None) now = (at : ℕ) × (now ≡ Some (Some at)) × Tells held (λ bytes. at ≡ length bytes)

-- the bytes under a name, where they are told
abbrev pub HasContent : Option (List ℕ → Option (List ℕ)) → List ℕ → (List ℕ → Type 0) → Type 0
HasContent contents name P = Tells contents (λ look_up. (bytes : List ℕ) × (look_up name ≡ Some bytes) × P bytes)

-- a writer that was just started
pub record IsFreshWriter (writer : SinkSeen) : Type 0 where
  pub faults : writer.faults ≡ 0
  pub held : Tells writer.held (λ bytes. bytes ≡ [])
  pub closing : Tells writer.closing (λ closing. closing ≡ None)

-- a reader that was just started
pub record IsFreshReader (reader : SourceSeen) : Type 0 where
  pub faults : reader.faults ≡ 0
  pub ends : reader.ends ≡ 0

-- A start that succeeds takes the first of the links to come, where they are told.
abbrev pub TakesLink : Option (List (List ℕ)) → Option (List (List ℕ)) → Option (List ℕ) → Type 0
TakesLink None after left = after ≡ None
TakesLink (Some []) after left = ⊥
TakesLink (Some (link ∷ links)) after left = (after ≡ Some links) × (left ≡ Some link)

-- one more command that was started, or that failed, where these are told
abbrev pub then_started : Option Commands → List ℕ → Option Commands
then_started None command = None
then_started (Some known) command = Some (record known { started = known.started ++ command ∷ [] })

abbrev pub then_failed : Option Commands → List ℕ → Option Commands
then_failed None command = None
then_failed (Some known) command = Some (record known { failed = known.failed ++ command ∷ [] })
