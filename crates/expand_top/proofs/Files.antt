-- A file of a list of files that are not too long.
use Rattle.std.proofs.Common.{◌≡◌, ℕ, zero, suc, Option, Some, None, option_map, List, [], ◌∷◌, ◌++◌, sym, subst}
use Rattle.std.specs.Prelude.{IfSome, slice_get}
use Rattle.std.proofs.lemmas.List.Elements.{All-cons, All-head, All-nil, All-tail}
use Rattle.expand_top.specs.Meaning.{NamedText, named_seen}
use Rattle.expand_top.specs.Means.{AreShort, IsShortText, option_list}
use Rattle.expand_top.specs.declared.texts.NamedText as code
use Rattle.expand_top.proofs.Promises.{none_some}

some_short : (n m : NamedText) → Some n ≡ Some m → IsShortText n → IsShortText m
some_short n m is short = let P : Option NamedText → Type 0 = λ o. elim o [ None ↦ Unit {0} | Some x ↦ IsShortText x ] in subst P is short

short_at : (files : List NamedText) (k : ℕ) (n : NamedText) → AreShort files → slice_get files k ≡ Some n → IsShortText n
short_at [] k n all is = absurd (none_some n is)
short_at (file ∷ files) zero n all is = some_short file n is (All-head IsShortText file files all)
short_at (file ∷ files) (suc k) n all is = short_at files k n (All-tail IsShortText file files all) is

pub if_short : (files : List NamedText) (k : ℕ) (o : Option code.NamedText) → AreShort files → option_map named_seen o ≡ slice_get files k → IfSome o (λ n. IsShortText (named_seen n))
if_short files k None all is = tt
if_short files k (Some n) all is = short_at files k (named_seen n) all (sym is)

pub more_short : (files : List NamedText) (n : NamedText) → AreShort files → IsShortText n → AreShort (files ++ n ∷ [])
more_short [] n all short = All-cons IsShortText n [] short (All-nil IsShortText)
more_short (file ∷ files) n all short =
    All-cons IsShortText file (files ++ n ∷ []) (All-head IsShortText file files all) (more_short files n (All-tail IsShortText file files all) short)

pub head_short : (o : Option code.NamedText) (f : code.NamedText) → o ≡ Some f → AreShort (option_list (option_map named_seen o)) → IsShortText (named_seen f)
head_short None f is all = absurd (none_some f is)
head_short (Some g) f is all =
    let P : Option code.NamedText → Type 0 = λ x. elim x [ None ↦ Unit {0} | Some y ↦ IsShortText (named_seen y) ] in
    subst P is (All-head IsShortText (named_seen g) [] all)
