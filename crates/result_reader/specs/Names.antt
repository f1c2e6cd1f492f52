-- Which names a reply may bring in: SE-0389, and this project's own for observers.
use Rattle.std.specs.Prelude.{ℕ, ◌&&◌, ◌||◌, not, Bool, List, [], ◌++◌, codes}
use Rattle.std.specs.Str.{bytes_eq}
use Rattle.swift_base.specs.declared.place.Span.{Span}
use Rattle.swift_tree.specs.Outlines.{ItemsSeen, none, cons}
use Rattle.unique_names.specs.Unique.{is_unique}
use Rattle.role_names.specs.Decided.{is_covered_by_list}
use Rattle.role_names.specs.DeclaredNames.{declared_names}
use Rattle.result_reader.specs.declared.reading.Reading.{Reading}
use Rattle.result_reader.specs.Fit.{text_at}

-- the macro may bring in the name
abbrev pub may_make : Reading → List ℕ → Bool
may_make reading name = is_covered_by_list reading.names.rules reading.attached name || is_unique reading.discriminator name

-- the names that declarations in a row declare
abbrev pub names_of : ItemsSeen → List Span
names_of none = []
names_of (cons first rest) = declared_names first ++ names_of rest

-- the macro may not bring in the name at the place
abbrev pub is_uncovered : Reading → List ℕ → Span → Bool
is_uncovered reading text name = not (may_make reading (text_at text name))

abbrev pub is_observer : List ℕ → Bool
is_observer word = bytes_eq word (codes "willSet") || bytes_eq word (codes "didSet")

-- an accessor that observes is brought in by its word
abbrev pub is_uncovered_observer : Reading → List ℕ → Span → Bool
is_uncovered_observer reading text word = is_observer (text_at text word) && is_uncovered reading text word
