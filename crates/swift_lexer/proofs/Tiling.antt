-- Tokens and trivia tile their text.
use Rattle.std.proofs.Common.{◌≡◌, ◌⊎◌, inl, inr, ℕ, ◌+◌, ◌-◌, List, [], ◌∷◌, ◌++◌, length, take, drop, slice_range, true, false, if◌then◌else◌, Some, None, Ok, Err, sym, refl, ap, subst, arith, ◌∙◌, append_assoc, append-nil}
use Rattle.std.specs.List.{All}
use Rattle.std.specs.Str.{chars, encode_utf8_all}
use Rattle.std.proofs.lemmas.List.{length-append, append_cancel_right}
use Rattle.std.proofs.lemmas.List.Elements.{All-nil, All-cons}
use Rattle.std.proofs.lemmas.Str.{encodes-append, encodes-chars}
use Rattle.std.proofs.Math.Seq.{drop-append_seam, take-append_seam}
use Rattle.swift_lexer.specs.declared.chars.TheConstants.{BYTE_ORDER_MARK}
use Rattle.swift_lexer.specs.declared.token.Class.{Class}
use Rattle.swift_lexer.specs.declared.token.Class.TheVariants.{Str}
use Rattle.swift_lexer.specs.declared.token.Token.{Token}
use Rattle.swift_lexer.specs.declared.found.Found.TheVariants as found
use Rattle.swift_lexer.specs.declared.found.Quotes.{Quotes}
use Rattle.swift_lexer.specs.declared.strings.Open.TheVariants.{InString}
use Rattle.swift_lexer.specs.Texts.{begins, behind}
use Rattle.swift_lexer.specs.Fronts.{at_front}
use Rattle.swift_lexer.specs.Spellings.{Spells, StopsBefore, IsToken}
use Rattle.swift_lexer.specs.Trivia.{IsPiece, IsTrivia, none, more, IsMarked, AreTrivia}
use Rattle.swift_lexer.specs.Tokens.{place, String, Outcome, after_token, after_mark, token_between, IsLexedFrom, ends, passes, reads, quotes, breaks, fails, IsLexed, ill_formed, well_formed}
use Rattle.swift_lexer.specs.Tiles.{IsTile, Chained, last_end, TokensTile}
use Rattle.swift_lexer.specs.Laws.{TokensOfATextTile}
use Rattle.swift_lexer.proofs.Leaving.{Passes, Passes-then, at_front-passes}
use Rattle.swift_lexer.proofs.Endings.{Closes-passes}
use Rattle.swift_lexer.proofs.Spelled.{begins_so, token_at_front, string_at_front, trivia_at_front}
use Rattle.swift_lexer.proofs.StringSpelled.{start_of, end_of, string_ends, whole_string}
use Rattle.swift_lexer.proofs.TokenBytes.{token_length}

-- what stands between a front and a rest
slice_between : (text front middle rest : List ℕ) (from to : ℕ) → text ≡ front ++ (middle ++ rest) → from ≡ length front → to ≡ from + length middle → slice_range text from to ≡ middle
slice_between text front middle rest from to split is_from is_to =
    let long : to - from ≡ length middle = omega arith in
    let behind : drop from text ≡ middle ++ rest = (λ i. drop (is_from i) (split i)) ∙ drop-append_seam front (middle ++ rest) in
    (λ i. take (long i) (behind i)) ∙ take-append_seam middle rest

-- the bytes are those of the characters in front and of the rest
record Standing (bytes rest : List ℕ) : Type 0 where
  front : List ℕ
  split : bytes ≡ encode_utf8_all front ++ encode_utf8_all rest

Standing-place : (bytes rest : List ℕ) (standing : Standing bytes rest) → place (length bytes) rest ≡ length (encode_utf8_all standing.front)
unfolding place
Standing-place bytes rest standing =
    omega (arith, ap length standing.split, length-append (encode_utf8_all standing.front) (encode_utf8_all rest))

abbrev Standing-leaves : (bytes text middle rest : List ℕ) → Standing bytes text → text ≡ middle ++ rest → Standing bytes rest
Standing-leaves bytes text middle rest standing split = record {
  front = standing.front ++ middle;
  split = standing.split ∙ ap (λ l. encode_utf8_all standing.front ++ l) (ap encode_utf8_all split ∙ encodes-append middle rest)
      ∙ sym (append_assoc (encode_utf8_all standing.front) (encode_utf8_all middle) (encode_utf8_all rest))
      ∙ ap (λ l. l ++ encode_utf8_all rest) (sym (encodes-append standing.front middle));
}

-- the trivia that stand before the rest, from their place on
record Waiting (bytes : List ℕ) (at : ℕ) (rest : List ℕ) : Type 0 where
  before : List ℕ
  trivia : List ℕ
  split : bytes ≡ encode_utf8_all before ++ (encode_utf8_all trivia ++ encode_utf8_all rest)
  start : at ≡ length (encode_utf8_all before)
  spelled : IsTrivia trivia ⊎ ((at ≡ 0) × IsMarked trivia)

Waiting-standing : (bytes : List ℕ) (at : ℕ) (rest : List ℕ) → Waiting bytes at rest → Standing bytes rest
Waiting-standing bytes at rest waiting = record {
  front = waiting.before ++ waiting.trivia;
  split = waiting.split ∙ sym (append_assoc (encode_utf8_all waiting.before) (encode_utf8_all waiting.trivia) (encode_utf8_all rest)) ∙ ap (λ l. l ++ encode_utf8_all rest) (sym (encodes-append waiting.before waiting.trivia));
}

Waiting-trivia : (bytes : List ℕ) (at : ℕ) (rest : List ℕ) (place_ : ℕ) → (waiting : Waiting bytes at rest) → place_ ≡ at + length (encode_utf8_all waiting.trivia) → AreTrivia at (slice_range bytes at place_)
Waiting-trivia bytes at rest place_ waiting long = record {
  characters = waiting.trivia;
  encoded = sym (slice_between bytes (encode_utf8_all waiting.before) (encode_utf8_all waiting.trivia) (encode_utf8_all rest) at place_ waiting.split waiting.start long);
  spelled = waiting.spelled;
}

Waiting-place : (bytes : List ℕ) (at : ℕ) (rest : List ℕ) (waiting : Waiting bytes at rest) → place (length bytes) rest ≡ at + length (encode_utf8_all waiting.trivia)
unfolding place
Waiting-place bytes at rest waiting =
    omega (arith, ap length waiting.split, waiting.start, length-append (encode_utf8_all waiting.before) (encode_utf8_all waiting.trivia ++ encode_utf8_all rest), length-append (encode_utf8_all waiting.trivia) (encode_utf8_all rest))

-- a piece more
trivia_more : {trivia : List ℕ} → IsTrivia trivia → (piece : List ℕ) → IsPiece piece → IsTrivia (trivia ++ piece)
trivia_more none piece is = more piece piece [] (sym (append-nil piece)) is none
trivia_more (more all first others split is_first trivia) piece is =
    more (all ++ piece) first (others ++ piece) (ap (λ l. l ++ piece) split ∙ append_assoc first others piece) is_first (trivia_more trivia piece is)

spelled_more : (at : ℕ) (trivia piece : List ℕ) → IsPiece piece → IsTrivia trivia ⊎ ((at ≡ 0) × IsMarked trivia) → IsTrivia (trivia ++ piece) ⊎ ((at ≡ 0) × IsMarked (trivia ++ piece))
spelled_more at trivia piece is (inl spelled) = inl (trivia_more spelled piece is)
spelled_more at trivia piece is (inr marked) = inr (marked.0, record { others = marked.1.others ++ piece; split = ap (λ l. l ++ piece) marked.1.split; trivia = trivia_more marked.1.trivia piece is })

Waiting-more : (bytes : List ℕ) (at : ℕ) (text piece rest : List ℕ) → Waiting bytes at text → text ≡ piece ++ rest → IsPiece piece → Waiting bytes at rest
Waiting-more bytes at text piece rest waiting split is = record {
  before = waiting.before;
  trivia = waiting.trivia ++ piece;
  split = waiting.split ∙ ap (λ l. encode_utf8_all waiting.before ++ l)
      (ap (λ l. encode_utf8_all waiting.trivia ++ l) (ap encode_utf8_all split ∙ encodes-append piece rest) ∙ sym (append_assoc (encode_utf8_all waiting.trivia) (encode_utf8_all piece) (encode_utf8_all rest)) ∙ ap (λ l. l ++ encode_utf8_all rest) (sym (encodes-append waiting.trivia piece)));
  start = waiting.start;
  spelled = spelled_more at waiting.trivia piece is waiting.spelled;
}

-- behind a token nothing stands before the rest yet
Waiting-start : (bytes rest : List ℕ) (standing : Standing bytes rest) → Waiting bytes (place (length bytes) rest) rest
Waiting-start bytes rest standing = record {
  before = standing.front;
  trivia = [];
  split = standing.split;
  start = Standing-place bytes rest standing;
  spelled = inl none;
}

token_tile : (bytes text middle rest : List ℕ) (trivia : ℕ) (class : Class) → Waiting bytes trivia text → text ≡ middle ++ rest → Spells class middle → StopsBefore class rest → IsTile bytes (token_between (length bytes) trivia class text rest)
token_tile bytes text middle rest trivia class waiting split spelled stops =
    let standing = Waiting-standing bytes trivia text waiting in
    let next = Standing-leaves bytes text middle rest standing split in
    let start = Standing-place bytes text standing in
    let end = Standing-place bytes rest next in
    let long : place (length bytes) rest ≡ place (length bytes) text + length (encode_utf8_all middle) = omega (arith, start, end, ap length (encodes-append standing.front middle), length-append (encode_utf8_all standing.front) (encode_utf8_all middle)) in
    let whole : bytes ≡ encode_utf8_all standing.front ++ (encode_utf8_all middle ++ encode_utf8_all rest) = standing.split ∙ ap (λ l. encode_utf8_all standing.front ++ l) (ap encode_utf8_all split ∙ encodes-append middle rest) in
    let slice = slice_between bytes (encode_utf8_all standing.front) (encode_utf8_all middle) (encode_utf8_all rest) (place (length bytes) text) (place (length bytes) rest) whole start long in
    let token : IsToken class (encode_utf8_all middle) = record { characters = middle; encoded = refl; spelled = spelled } in
    let some = token_length class (encode_utf8_all middle) token in
    let behind : encode_utf8_all rest ≡ drop (place (length bytes) rest) bytes = sym ((λ i. drop (end i) (next.split i)) ∙ drop-append_seam (encode_utf8_all next.front) (encode_utf8_all rest)) in
    let before = Waiting-place bytes trivia text waiting in
    record {
      trivia = omega (arith, before);
      some = omega (arith, long, some);
      within = omega (arith, end, ap length next.split, length-append (encode_utf8_all next.front) (encode_utf8_all rest));
      blank = Waiting-trivia bytes trivia text (place (length bytes) text) waiting before;
      spelled = subst (IsToken class) (sym slice) token;
      followed = record { characters = rest; encoded = behind; stops = stops };
    }

-- the tokens from a place on tile what stands from there on
record TileFrom (bytes : List ℕ) (at : ℕ) (tokens : List Token) : Type 0 where
  each : All (IsTile bytes) tokens
  chained : Chained at tokens
  behind : AreTrivia (last_end at tokens) (drop (last_end at tokens) bytes)

tile_first : (bytes : List ℕ) (token : Token) (others : List Token) → IsTile bytes token → TileFrom bytes token.end others → TileFrom bytes token.trivia (token ∷ others)
tile_first bytes token others tile tiles = record { each = All-cons (IsTile bytes) token others tile tiles.each; chained = (refl, tiles.chained); behind = tiles.behind }

-- trivia up to the end
no_tokens : (bytes : List ℕ) (at : ℕ) (text : List ℕ) → Waiting bytes at text → text ≡ [] → TileFrom bytes at []
no_tokens bytes at text waiting nothing =
    let empty : encode_utf8_all waiting.trivia ++ encode_utf8_all text ≡ encode_utf8_all waiting.trivia = ap (λ l. encode_utf8_all waiting.trivia ++ encode_utf8_all l) nothing ∙ append-nil (encode_utf8_all waiting.trivia) in
    let left : drop at bytes ≡ encode_utf8_all waiting.trivia = (λ i. drop (waiting.start i) (waiting.split i)) ∙ drop-append_seam (encode_utf8_all waiting.before) (encode_utf8_all waiting.trivia ++ encode_utf8_all text) ∙ empty in
    record {
      each = All-nil (IsTile bytes);
      chained = tt;
      behind = record { characters = waiting.trivia; encoded = sym left; spelled = waiting.spelled };
    }

abbrev OutcomeTiles : List ℕ → ℕ → Outcome → Type 0
OutcomeTiles bytes at (Ok tokens) = TileFrom bytes at tokens
OutcomeTiles bytes at (Err fault) = Unit {0}

tile_then : (bytes text middle rest : List ℕ) (trivia : ℕ) (class : Class) → IsTile bytes (token_between (length bytes) trivia class text rest) → (outcome whole : Outcome) → OutcomeTiles bytes (place (length bytes) rest) outcome → whole ≡ after_token (token_between (length bytes) trivia class text rest) outcome → OutcomeTiles bytes trivia whole
tile_then bytes text middle rest trivia class tile (Ok tokens) whole tiles same = subst (OutcomeTiles bytes trivia) (sym same) (tile_first bytes (token_between (length bytes) trivia class text rest) tokens tile tiles)
tile_then bytes text middle rest trivia class tile (Err fault) whole tiles same = subst (OutcomeTiles bytes trivia) (sym same) tt

-- a string with what stands behind it
module _ (bytes text inside rest : List ℕ) (trivia : ℕ) (marks : Quotes) (is : at_front text ≡ Some (found.Opens marks, inside)) (closes : String (length bytes) marks text inside (Ok rest)) where
  string_passes : Passes text rest
  string_passes = Passes-then text inside rest (at_front-passes text (found.Opens marks) inside is tt) (Closes-passes (length bytes) (InString marks) (place (length bytes) text) inside rest closes)

  string_split : text ≡ (string_passes.first ∷ string_passes.leaves.front) ++ rest
  string_split = string_passes.split ∙ ap (λ l. string_passes.first ∷ l) string_passes.leaves.split

  string_spelled : Spells Str (string_passes.first ∷ string_passes.leaves.front)
  string_spelled =
      let end = string_ends (length bytes) marks (place (length bytes) text) inside rest closes in
      let whole : text ≡ start_of marks (end.inside ++ end_of marks []) ++ rest = string_at_front text marks inside is ∙ ap (start_of marks) end.split ∙ sym (whole_string marks end.inside rest) in
      record { quotes = marks; inside = end.inside; split = append_cancel_right (string_passes.first ∷ string_passes.leaves.front) (start_of marks (end.inside ++ end_of marks [])) rest (sym string_split ∙ whole) }

nothing_at_end : (text : List ℕ) → at_front text ≡ None → text ≡ []
unfolding at_front
nothing_at_end [] is = refl
nothing_at_end (c ∷ cs) is = cc

tile_from : (bytes : List ℕ) {trivia : ℕ} {text : List ℕ} {outcome : Outcome} → IsLexedFrom (length bytes) trivia text outcome → Waiting bytes trivia text → OutcomeTiles bytes trivia outcome
tile_from bytes {trivia} {text} (ends is) waiting = no_tokens bytes trivia text waiting (nothing_at_end text is)
tile_from bytes {trivia} {text} (passes rest is lexed) waiting =
    let piece = trivia_at_front text rest is in
    tile_from bytes lexed (Waiting-more bytes trivia text piece.piece rest waiting piece.split piece.spelled)
tile_from bytes {trivia} {text} {outcome} (reads class rest after is lexed same) waiting =
    let token = token_at_front text class rest is in
    let middle : List ℕ = token.first ∷ token.others in
    let standing = Standing-leaves bytes text middle rest (Waiting-standing bytes trivia text waiting) token.split in
    let tiles = tile_from bytes lexed (Waiting-start bytes rest standing) in
    tile_then bytes text middle rest trivia class (token_tile bytes text middle rest trivia class waiting token.split token.spelled token.stops) after outcome tiles same
tile_from bytes {trivia} {text} {outcome} (quotes marks inside rest after is closes lexed same) waiting =
    let passed = string_passes bytes text inside rest trivia marks is closes in
    let middle : List ℕ = passed.first ∷ passed.leaves.front in
    let split = string_split bytes text inside rest trivia marks is closes in
    let standing = Standing-leaves bytes text middle rest (Waiting-standing bytes trivia text waiting) split in
    let tiles = tile_from bytes lexed (Waiting-start bytes rest standing) in
    tile_then bytes text middle rest trivia Str (token_tile bytes text middle rest trivia Str waiting split (string_spelled bytes text inside rest trivia marks is closes) tt) after outcome tiles same
tile_from bytes (breaks marks inside fault is closes) waiting = tt
tile_from bytes (fails kind here is) waiting = tt

-- at the beginning, where a byte order mark may stand
Waiting-mark : (bytes text : List ℕ) → bytes ≡ encode_utf8_all text → Waiting bytes 0 (after_mark text)
Waiting-mark bytes text split =
    elim (begins BYTE_ORDER_MARK text) as (λ b. begins BYTE_ORDER_MARK text ≡ b → Waiting bytes 0 (if b then behind text else text)) [
      | true ↦ λ marked. record {
        before = [];
        trivia = BYTE_ORDER_MARK ∷ [];
        split = split ∙ ap encode_utf8_all (begins_so BYTE_ORDER_MARK text marked) ∙ encodes-append (BYTE_ORDER_MARK ∷ []) (behind text);
        start = refl;
        spelled = inr (refl, record { others = []; split = refl; trivia = none });
      }
      | false ↦ λ unmarked. record { before = []; trivia = []; split = split; start = refl; spelled = inl none }
    ] refl

abbrev Tiled : List ℕ → Outcome → Type 0
Tiled text (Ok tokens) = TokensTile text tokens
Tiled text (Err fault) = Unit {0}

tile_text : (text : List ℕ) (outcome : Outcome) → OutcomeTiles text 0 outcome → Tiled text outcome
tile_text text (Ok tokens) tiles = record { each = tiles.each; chained = tiles.chained; behind = tiles.behind }
tile_text text (Err fault) tiles = tt

tile_lexed : (text : List ℕ) (outcome : Outcome) → IsLexed text outcome → Tiled text outcome
tile_lexed text outcome (ill_formed valid upto) = tt
tile_lexed text outcome (well_formed utf8 lexed) =
    tile_text text outcome (tile_from text lexed (Waiting-mark text (chars text) (sym (encodes-chars text utf8))))

pub tokens_tile : TokensOfATextTile
tokens_tile text tokens lexed = tile_lexed text (Ok tokens) lexed
