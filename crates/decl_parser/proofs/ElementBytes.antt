-- How many bytes elements of some sorts have at least.
use Rattle.std.proofs.Common.{◌≡◌, refl, ap, subst, arith, ℕ, ◌+◌, ◌-◌, ◌<◌, ◌≤◌, List, [], ◌∷◌, length, drop, slice_range, Bool, true, false, ◌&&◌, if◌then◌else◌}
use Rattle.std.specs.Prelude.{nat_lt, ◌==◌, slice_index, codes}
use Rattle.std.specs.Str.{bytes_eq}
use Rattle.std.proofs.lemmas.Bool.{ltb-true}
use Rattle.std.proofs.lemmas.List.{length-append, length-drop, length-take}
use Rattle.std.proofs.lemmas.Str.{length-le-encodes}
use Rattle.swift_lexer.specs.declared.token.Class.{Class}
use Rattle.swift_lexer.specs.declared.token.Class.TheVariants as class
use Rattle.swift_lexer.specs.declared.token.Token.{Token}
use Rattle.swift_lexer.specs.Spellings.{IsToken, Spells}
use Rattle.swift_lexer.specs.Tiles.{IsTile, bytes_of}
use Rattle.element_marks.specs.declared.mark.Sort.{Sort}
use Rattle.element_marks.specs.declared.mark.Sort.TheVariants as sort
use Rattle.element_marks.specs.declared.mark.TheConstants.{LESS, GREATER}
use Rattle.element_marks.specs.Sorts.{is_quoted, is_quoted_sort, is_use, is_use_sort, is_braces, is_braces_sort}
use Rattle.element_marks.specs.Words.{is_builtin}
use Rattle.element_marks.specs.Marks.{mark_sort, operator_sort, pound_sort, group_sort, leaf_sort, ends_angle, mark_between, angle_count, begins_angle}

-- an element holds a byte; a name in backquotes, a `#` word, and an operator that ends with a further `<` hold more.
-- Braces have no `<` and no `>`
pub record MarkFits (start end : ℕ) (quoted use_ angle braces begins : Bool) (opens closes : ℕ) : Type 0 where
  pub some : start < end
  pub name : quoted ≡ true → start + 2 < end
  pub word : use_ ≡ true → start + 1 < end
  pub operator : angle ≡ true → start + 1 < end
  pub plain : braces ≡ true → (begins ≡ false) × (opens ≡ 0) × (closes ≡ 0)

-- neither a name in backquotes nor a macro's `#` word
record IsPlain (of_sort : Sort) : Type 0 where
  quoted : is_quoted_sort of_sort ≡ false
  use_ : is_use_sort of_sort ≡ false

plain_if : (which : Bool) (one other : Sort) → IsPlain one → IsPlain other → IsPlain (if which then one else other)
plain_if true one other first second = first
plain_if false one other first second = second

plain_mark : (byte : ℕ) → IsPlain (mark_sort byte)
unfolding mark_sort
plain_mark byte =
    plain_if (byte == 44) sort.Comma _ (record { quoted = refl; use_ = refl })
    (plain_if (byte == 58) sort.Colon _ (record { quoted = refl; use_ = refl })
    (plain_if (byte == 59) sort.Semicolon _ (record { quoted = refl; use_ = refl })
    (plain_if (byte == 46) sort.Dot sort.Backslash (record { quoted = refl; use_ = refl }) (record { quoted = refl; use_ = refl }))))

plain_operator : (bytes : List ℕ) → IsPlain (operator_sort bytes)
unfolding operator_sort
plain_operator bytes =
    plain_if (bytes_eq bytes (codes "=")) sort.Equals _ (record { quoted = refl; use_ = refl })
    (plain_if (bytes_eq bytes (codes "->")) sort.Arrow sort.Operator (record { quoted = refl; use_ = refl }) (record { quoted = refl; use_ = refl }))

plain_group : (byte : ℕ) → IsPlain (group_sort byte)
unfolding group_sort
plain_group byte =
    plain_if (byte == 40) sort.Parentheses _ (record { quoted = refl; use_ = refl })
    (plain_if (byte == 91) sort.Brackets sort.Braces (record { quoted = refl; use_ = refl }) (record { quoted = refl; use_ = refl }))

unquoted_if : (which : Bool) → is_quoted_sort (if which then sort.BuiltinPound else sort.Pound) ≡ false
unquoted_if true = refl
unquoted_if false = refl

plain_pound : (bytes : List ℕ) → is_quoted_sort (pound_sort bytes) ≡ false
unfolding pound_sort
plain_pound bytes = unquoted_if (is_builtin bytes)

not_both : {A : Type 0} (b : Bool) → b ≡ true → b ≡ false → A
not_both b is not_ = cc

quoted_class : (of_class : Class) (bytes : List ℕ) → is_quoted_sort (leaf_sort of_class bytes) ≡ true → of_class ≡ class.Quoted
quoted_class class.Word bytes is = cc
quoted_class class.Quoted bytes is = refl
quoted_class class.Number bytes is = cc
quoted_class class.Str bytes is = cc
quoted_class class.Pound bytes is = not_both (is_quoted_sort (pound_sort (slice_range bytes 1 (length bytes)))) is (plain_pound (slice_range bytes 1 (length bytes)))
quoted_class class.At bytes is = cc
quoted_class class.Punct bytes is = not_both (is_quoted_sort (mark_sort (slice_index bytes 0))) is (plain_mark (slice_index bytes 0)).quoted
quoted_class class.Oper bytes is = not_both (is_quoted_sort (operator_sort bytes)) is (plain_operator bytes).quoted
quoted_class class.LeftBracket bytes is = not_both (is_quoted_sort (group_sort (slice_index bytes 0))) is (plain_group (slice_index bytes 0)).quoted
quoted_class class.RightBracket bytes is = not_both (is_quoted_sort (group_sort (slice_index bytes 0))) is (plain_group (slice_index bytes 0)).quoted

pub use_class : (of_class : Class) (bytes : List ℕ) → is_use_sort (leaf_sort of_class bytes) ≡ true → of_class ≡ class.Pound
use_class class.Word bytes is = cc
use_class class.Quoted bytes is = cc
use_class class.Number bytes is = cc
use_class class.Str bytes is = cc
use_class class.Pound bytes is = refl
use_class class.At bytes is = cc
use_class class.Punct bytes is = not_both (is_use_sort (mark_sort (slice_index bytes 0))) is (plain_mark (slice_index bytes 0)).use_
use_class class.Oper bytes is = not_both (is_use_sort (operator_sort bytes)) is (plain_operator bytes).use_
use_class class.LeftBracket bytes is = not_both (is_use_sort (group_sort (slice_index bytes 0))) is (plain_group (slice_index bytes 0)).use_
use_class class.RightBracket bytes is = not_both (is_use_sort (group_sort (slice_index bytes 0))) is (plain_group (slice_index bytes 0)).use_

quoted_characters : (characters : List ℕ) → Spells class.Quoted characters → 2 < length characters
quoted_characters [] spelled = absurd spelled
quoted_characters (c ∷ cs) spelled =
    let name = spelled.1 in omega (arith, name.some, ap length name.closed, length-append name.name (96 ∷ []))

pound_characters : (characters : List ℕ) → Spells class.Pound characters → 1 < length characters
pound_characters [] spelled = absurd spelled
pound_characters (c ∷ []) spelled = absurd spelled.1
pound_characters (c ∷ next ∷ others) spelled = omega arith

quoted_bytes : (of_class : Class) (bytes : List ℕ) → of_class ≡ class.Quoted → IsToken of_class bytes → 2 < length bytes
quoted_bytes of_class bytes is token =
    omega (arith, quoted_characters token.characters (subst (λ c. Spells c token.characters) is token.spelled), length-le-encodes token.characters, ap length token.encoded)

pound_bytes : (of_class : Class) (bytes : List ℕ) → of_class ≡ class.Pound → IsToken of_class bytes → 1 < length bytes
pound_bytes of_class bytes is token =
    omega (arith, pound_characters token.characters (subst (λ c. Spells c token.characters) is token.spelled), length-le-encodes token.characters, ap length token.encoded)

pub both_left : (a b : Bool) → (a && b) ≡ true → a ≡ true
both_left true b is = refl
both_left false b is = cc

angle_bytes : (of_sort : Sort) (bytes : List ℕ) → ends_angle of_sort bytes ≡ true → 1 < length bytes
angle_bytes sort.Operator bytes is = ltb-true 1 (length bytes) (both_left (nat_lt 1 (length bytes)) _ is)
angle_bytes _ bytes is = cc

plain_braces : (of_sort : Sort) (bytes : List ℕ) → is_braces_sort of_sort ≡ true → (begins_angle of_sort bytes ≡ false) × (angle_count LESS of_sort bytes ≡ 0) × (angle_count GREATER of_sort bytes ≡ 0)
plain_braces sort.Braces bytes is = (refl, refl, refl)
plain_braces _ bytes is = cc

bytes_length : (text : List ℕ) (token : Token) → IsTile text token → length (bytes_of text token) ≡ token.end - token.start
bytes_length text token tile = omega (arith, length-take (token.end - token.start) (drop token.start text), length-drop token.start text, tile.within)

pub element_fits : (text : List ℕ) (token : Token) (end : ℕ) → IsTile text token → token.end ≤ end → MarkFits (mark_between text token end).start (mark_between text token end).end (is_quoted (mark_between text token end)) (is_use (mark_between text token end)) (mark_between text token end).ends_angle (is_braces (mark_between text token end)) (mark_between text token end).begins_angle (mark_between text token end).opens (mark_between text token end).closes
unfolding mark_between
element_fits text token end tile less = record {
  some = omega (arith, tile.some);
  name = λ is. omega (arith, quoted_bytes token.class (bytes_of text token) (quoted_class token.class (bytes_of text token) is) tile.spelled, bytes_length text token tile);
  word = λ is. omega (arith, pound_bytes token.class (bytes_of text token) (use_class token.class (bytes_of text token) is) tile.spelled, bytes_length text token tile);
  operator = λ is. omega (arith, angle_bytes (leaf_sort token.class (bytes_of text token)) (bytes_of text token) is, bytes_length text token tile);
  plain = λ is. plain_braces (leaf_sort token.class (bytes_of text token)) (bytes_of text token) is;
}
