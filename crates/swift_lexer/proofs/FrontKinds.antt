-- Of which characters each kind of front is.
use Rattle.std.proofs.Common.{◌≡◌, ℕ, true, false, if◌then◌else◌, ◌==◌, refl}
use Rattle.std.specs.Char.{is_ascii_digit}
use Rattle.swift_lexer.specs.declared.chars.Front.{Front}
use Rattle.swift_lexer.specs.declared.chars.Front.TheVariants as front
use Rattle.swift_lexer.specs.declared.chars.TheConstants.{QUOTE, BACKQUOTE, POUND, AT, DOT, SLASH}
use Rattle.swift_lexer.specs.Bytes.{is_left_bracket, is_right_bracket}
use Rattle.swift_lexer.specs.Chars.{is_blank, is_mark, is_word_start, is_operator, front_of}

-- the row of the table
abbrev pub IsOfKind : Front → ℕ → Type 0
IsOfKind front.Word c = (is_word_start c) ≡ true
IsOfKind front.Blank c = (is_blank c) ≡ true
IsOfKind front.Digit c = (is_ascii_digit c) ≡ true
IsOfKind front.Mark c = (is_mark c) ≡ true
IsOfKind front.Dot c = (c == DOT) ≡ true
IsOfKind front.Left c = (is_left_bracket c) ≡ true
IsOfKind front.Right c = (is_right_bracket c) ≡ true
IsOfKind front.Slash c = (c == SLASH) ≡ true
IsOfKind front.Quote c = (c == QUOTE) ≡ true
IsOfKind front.Pound c = (c == POUND) ≡ true
IsOfKind front.At c = (c == AT) ≡ true
IsOfKind front.Backquote c = (c == BACKQUOTE) ≡ true
IsOfKind front.Operator c = (is_operator c) ≡ true
IsOfKind front.Other c = Unit {0}

-- the table from each row on
abbrev from_Other : ℕ → Front
from_Other c = front.Other

from_Other-kind : (c : ℕ) → IsOfKind (from_Other c) c
from_Other-kind c = tt

abbrev from_Operator : ℕ → Front
from_Operator c = if is_operator c then front.Operator else from_Other c

from_Operator-kind : (c : ℕ) → IsOfKind (from_Operator c) c
from_Operator-kind c = elim (is_operator c) as (λ b. (is_operator c) ≡ b → IsOfKind (if b then front.Operator else from_Other c) c) [ true ↦ λ is. is | false ↦ λ is_not. from_Other-kind c ] refl

abbrev from_Backquote : ℕ → Front
from_Backquote c = if c == BACKQUOTE then front.Backquote else from_Operator c

from_Backquote-kind : (c : ℕ) → IsOfKind (from_Backquote c) c
from_Backquote-kind c = elim (c == BACKQUOTE) as (λ b. (c == BACKQUOTE) ≡ b → IsOfKind (if b then front.Backquote else from_Operator c) c) [ true ↦ λ is. is | false ↦ λ is_not. from_Operator-kind c ] refl

abbrev from_At : ℕ → Front
from_At c = if c == AT then front.At else from_Backquote c

from_At-kind : (c : ℕ) → IsOfKind (from_At c) c
from_At-kind c = elim (c == AT) as (λ b. (c == AT) ≡ b → IsOfKind (if b then front.At else from_Backquote c) c) [ true ↦ λ is. is | false ↦ λ is_not. from_Backquote-kind c ] refl

abbrev from_Pound : ℕ → Front
from_Pound c = if c == POUND then front.Pound else from_At c

from_Pound-kind : (c : ℕ) → IsOfKind (from_Pound c) c
from_Pound-kind c = elim (c == POUND) as (λ b. (c == POUND) ≡ b → IsOfKind (if b then front.Pound else from_At c) c) [ true ↦ λ is. is | false ↦ λ is_not. from_At-kind c ] refl

abbrev from_Quote : ℕ → Front
from_Quote c = if c == QUOTE then front.Quote else from_Pound c

from_Quote-kind : (c : ℕ) → IsOfKind (from_Quote c) c
from_Quote-kind c = elim (c == QUOTE) as (λ b. (c == QUOTE) ≡ b → IsOfKind (if b then front.Quote else from_Pound c) c) [ true ↦ λ is. is | false ↦ λ is_not. from_Pound-kind c ] refl

abbrev from_Slash : ℕ → Front
from_Slash c = if c == SLASH then front.Slash else from_Quote c

from_Slash-kind : (c : ℕ) → IsOfKind (from_Slash c) c
from_Slash-kind c = elim (c == SLASH) as (λ b. (c == SLASH) ≡ b → IsOfKind (if b then front.Slash else from_Quote c) c) [ true ↦ λ is. is | false ↦ λ is_not. from_Quote-kind c ] refl

abbrev from_Right : ℕ → Front
from_Right c = if is_right_bracket c then front.Right else from_Slash c

from_Right-kind : (c : ℕ) → IsOfKind (from_Right c) c
from_Right-kind c = elim (is_right_bracket c) as (λ b. (is_right_bracket c) ≡ b → IsOfKind (if b then front.Right else from_Slash c) c) [ true ↦ λ is. is | false ↦ λ is_not. from_Slash-kind c ] refl

abbrev from_Left : ℕ → Front
from_Left c = if is_left_bracket c then front.Left else from_Right c

from_Left-kind : (c : ℕ) → IsOfKind (from_Left c) c
from_Left-kind c = elim (is_left_bracket c) as (λ b. (is_left_bracket c) ≡ b → IsOfKind (if b then front.Left else from_Right c) c) [ true ↦ λ is. is | false ↦ λ is_not. from_Right-kind c ] refl

abbrev from_Dot : ℕ → Front
from_Dot c = if c == DOT then front.Dot else from_Left c

from_Dot-kind : (c : ℕ) → IsOfKind (from_Dot c) c
from_Dot-kind c = elim (c == DOT) as (λ b. (c == DOT) ≡ b → IsOfKind (if b then front.Dot else from_Left c) c) [ true ↦ λ is. is | false ↦ λ is_not. from_Left-kind c ] refl

abbrev from_Mark : ℕ → Front
from_Mark c = if is_mark c then front.Mark else from_Dot c

from_Mark-kind : (c : ℕ) → IsOfKind (from_Mark c) c
from_Mark-kind c = elim (is_mark c) as (λ b. (is_mark c) ≡ b → IsOfKind (if b then front.Mark else from_Dot c) c) [ true ↦ λ is. is | false ↦ λ is_not. from_Dot-kind c ] refl

abbrev pub from_Digit : ℕ → Front
from_Digit c = if is_ascii_digit c then front.Digit else from_Mark c

from_Digit-kind : (c : ℕ) → IsOfKind (from_Digit c) c
from_Digit-kind c = elim (is_ascii_digit c) as (λ b. (is_ascii_digit c) ≡ b → IsOfKind (if b then front.Digit else from_Mark c) c) [ true ↦ λ is. is | false ↦ λ is_not. from_Mark-kind c ] refl

abbrev pub from_Blank : ℕ → Front
from_Blank c = if is_blank c then front.Blank else from_Digit c

from_Blank-kind : (c : ℕ) → IsOfKind (from_Blank c) c
from_Blank-kind c = elim (is_blank c) as (λ b. (is_blank c) ≡ b → IsOfKind (if b then front.Blank else from_Digit c) c) [ true ↦ λ is. is | false ↦ λ is_not. from_Digit-kind c ] refl

abbrev from_Word : ℕ → Front
from_Word c = if is_word_start c then front.Word else from_Blank c

from_Word-kind : (c : ℕ) → IsOfKind (from_Word c) c
from_Word-kind c = elim (is_word_start c) as (λ b. (is_word_start c) ≡ b → IsOfKind (if b then front.Word else from_Blank c) c) [ true ↦ λ is. is | false ↦ λ is_not. from_Blank-kind c ] refl

pub front_of-kind : (c : ℕ) → IsOfKind (front_of c) c
unfolding front_of
front_of-kind c = from_Word-kind c
