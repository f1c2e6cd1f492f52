-- A name that only macros make begins with bytes that stand in its text.
use Rattle.std.proofs.Common.{◌≡◌, ◌∙◌, refl, ap, sym, arith, ℕ, zero, suc, ◌+◌, ◌-◌, ◌<◌, List, [], ◌∷◌, ◌++◌, append_assoc, length, length-append, take, drop, take-append-drop, slice_index, slice_range, Ok, true, false, if◌then◌else◌, nat_eq, Err}
use Rattle.std.specs.List.{starts_with}
use Rattle.std.proofs.lemmas.Slice.Eq.{bytes_eq-Decides}
use Rattle.memchr.specs.Find.{Nowhere, OccursAt}
use Rattle.swift_lexer.specs.declared.token.Class.{Class}
use Rattle.swift_lexer.specs.declared.token.Class.TheVariants as class
use Rattle.swift_lexer.specs.declared.token.Token.{Token}
use Rattle.element_marks.specs.declared.words.TheConstants.{RESERVED}
use Rattle.element_marks.specs.Words.{is_reserved}
use Rattle.decl_parser.specs.declared.fault.ParseKind.TheVariants.{ReservedWord}
use Rattle.decl_parser.specs.Faults.{fault}
use Rattle.decl_parser.specs.Outline.{name_bytes, unreserved}

-- the bytes are a part of the text
record IsPart (text part : List ℕ) : Type 0 where
  pub front : List ℕ
  pub back : List ℕ
  pub is : text ≡ front ++ (part ++ back)

part_range : (text : List ℕ) (from to : ℕ) → IsPart text (slice_range text from to)
part_range text from to = record {
  front = take from text;
  back = drop (to - from) (drop from text);
  is = sym (take-append-drop from text) ∙ ap (λ l. take from text ++ l) (sym (take-append-drop (to - from) (drop from text)));
}

part_drop : (text part : List ℕ) (n : ℕ) → IsPart text part → IsPart text (drop n part)
part_drop text part n whole = record {
  front = whole.front ++ take n part;
  back = whole.back;
  is = whole.is
      ∙ ap (λ l. whole.front ++ (l ++ whole.back)) (sym (take-append-drop n part))
      ∙ ap (λ l. whole.front ++ l) (append_assoc (take n part) (drop n part) whole.back)
      ∙ sym (append_assoc whole.front (take n part) (drop n part ++ whole.back));
}

no_part : (text : List ℕ) → IsPart text []
no_part text = record { front = []; back = text; is = refl }

name_part : (text : List ℕ) (of_class : Class) (token : Token) → IsPart text (name_bytes text of_class token)
name_part text class.Word token = part_range text token.start token.end
name_part text class.Quoted token = part_drop text (slice_range text token.start (token.end - 1)) 1 (part_range text token.start (token.end - 1))
name_part text of_class token = no_part text

index_behind : (front rest : List ℕ) (j : ℕ) → slice_index (front ++ rest) (length front + j) ≡ slice_index rest j
index_behind [] rest j = let same : 0 + j ≡ j = omega arith in ap (slice_index rest) same
index_behind (byte ∷ front) rest j =
    let next : suc (length front) + j ≡ suc (length front + j) = omega arith in
    ap (slice_index (byte ∷ (front ++ rest))) next ∙ index_behind front rest j

index_front : (needle rest : List ℕ) (j : ℕ) → j < length needle → slice_index (needle ++ rest) j ≡ slice_index needle j
index_front [] rest j less = absurd (omega (arith, less))
index_front (byte ∷ needle) rest zero less = refl
index_front (byte ∷ needle) rest (suc j) less = index_front needle rest j (omega (arith, less))

occurs : (text front needle back : List ℕ) → text ≡ front ++ (needle ++ back) → OccursAt text needle (length front)
occurs text front needle back is = record {
  fits = omega (arith, ap length is, length-append front (needle ++ back), length-append needle back);
  reads = λ j less. ap (λ l. slice_index l (length front + j)) is ∙ index_behind front (needle ++ back) j ∙ index_front needle back j less;
}

begins : (name needle : List ℕ) → starts_with nat_eq name needle ≡ true → name ≡ needle ++ drop (length needle) name
begins name needle is =
    let same : needle ≡ take (length needle) name = (bytes_eq-Decides needle (take (length needle) name)).0 is in
    sym (take-append-drop (length needle) name) ∙ ap (λ l. l ++ drop (length needle) name) (sym same)

module _ (text : List ℕ) (nowhere : Nowhere (OccursAt text RESERVED.now) 0 (length text + 1)) where
  unreserved_part : (name : List ℕ) → IsPart text name → is_reserved name ≡ true → ⊥
  unfolding is_reserved
  unreserved_part name part is =
      let rest = drop (length RESERVED.now) name in
      let whole : text ≡ part.front ++ (RESERVED.now ++ (rest ++ part.back)) =
      part.is ∙ ap (λ l. part.front ++ (l ++ part.back)) (begins name RESERVED.now is) ∙ ap (λ l. part.front ++ l) (append_assoc RESERVED.now rest part.back) in
      let here = occurs text part.front RESERVED.now (rest ++ part.back) whole in
      nowhere (length part.front) (omega arith) (omega (arith, here.fits)) here

  pub none_reserved : (tokens : List Token) → unreserved text tokens ≡ Ok tt
  none_reserved [] = refl
  none_reserved (token ∷ tokens) =
      let name = name_bytes text token.class token in
      elim (is_reserved name) as (λ b. is_reserved name ≡ b → (if b then Err (fault token.start ReservedWord) else unreserved text tokens) ≡ Ok tt) [
        | true ↦ λ is. absurd (unreserved_part name (name_part text token.class token) is)
        | false ↦ λ is. none_reserved tokens
      ] refl
