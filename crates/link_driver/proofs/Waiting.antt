-- What was read since a process was asked.
use Rattle.std.proofs.Common.{◌≡◌, ℕ, ◌<◌, ◌≤◌, Bool, true, false, not, Vec, List, [], ◌∷◌, ◌++◌, length, drop, refl, sym, ap, subst, ◌∙◌, append_assoc, append-nil, arith}
use Rattle.std.proofs.lemmas.List.{append_cancel_left, length-map}
use Rattle.std.proofs.Transfers.{drop-appended}
use Rattle.plugin_frames.specs.Frames.{Tail, Rest, Length, IsFrames, unfinished, too_long, frame}
use Rattle.plugin_frames.specs.declared.refusal.FrameFault.{FrameFault}
use Rattle.plugin_frames.specs.declared.refusal.FrameFault.TheVariants as fault
use Rattle.plugin_frames.specs.declared.refusal.Refusal.TheVariants.{Fault}
use Rattle.plugin_frames.specs.Feeding.{LeavesRest, ReadsOn, Refuses, IsWaiting}
use Rattle.plugin_frames.specs.Cutting.{payloads_of}
use Rattle.plugin_frames.specs.Laws.{EachListIsFrames, OneReading, FramesGoOn, LengthStays, NoFrames}
use Rattle.plugin_messages.specs.declared.message.Outcome.{Outcome}
use Rattle.plugin_messages.specs.PluginOf.{plugin_message_of}
use Rattle.swift_base.specs.Outside.{SourceSeen}
use Rattle.link_driver.specs.Links.{Gains}
use Rattle.link_driver.specs.declared.replies.Response.TheVariants as response
use Rattle.link_driver.specs.LinkTable.{greets_badly, is_capability}
use Rattle.link_driver.specs.Awaiting.{HasRead, HasMetLength, IsSoleReply, Replies, HasNoReply, NeverReplies}
use Rattle.link_driver.proofs.Replied.{greeting_stands, greets_same}

pub read_none : (got : List ℕ) (payloads : List (List ℕ)) (frames : Tail) → payloads ≡ [] → frames ≡ Rest [] → NoFrames → HasRead got got payloads frames
read_none got payloads frames nothing fresh none = record {
  gained = [];
  rest = [];
  waits = fresh;
  appended = sym (append-nil got);
  read =
      subst (λ (p : List (List ℕ)). IsFrames [] p frames) (sym nothing)
      (subst (λ (t : Tail). IsFrames [] [] t) (sym fresh) none);
}

-- the piece that was fed is what the reader gave
pub read_more : {A : Type 0} (start got next piece : List ℕ) (before after : SourceSeen) (old new : List (Vec ℕ A)) (frames then : Tail)
    → FramesGoOn → HasRead start got (payloads_of old) frames → Gains before got after next → piece ≡ drop (length got) next
    → LeavesRest frames piece old new then → HasRead start next (payloads_of new) then
read_more start got next piece before after old new frames then goes_on has gains behind (left, is, reads) =
    let fed : piece ≡ gains.gained = behind ∙ drop-appended got next gains.gained gains.appended in
    record {
      gained = has.gained ++ piece;
      rest = left;
      waits = is;
      appended =
          gains.appended ∙ ap (λ (g : List ℕ). g ++ gains.gained) has.appended ∙ append_assoc start has.gained gains.gained
          ∙ ap (λ (p : List ℕ). start ++ (has.gained ++ p)) (sym fed);
      read =
          subst (λ (p : List (List ℕ)). IsFrames (has.gained ++ piece) p then) (sym reads.read.appended)
          (goes_on has.gained piece reads.rest (payloads_of old) reads.read.payloads then
          (subst (λ (t : Tail). IsFrames has.gained (payloads_of old) t) reads.held has.read) reads.read.frames);
    }

pub some_payloads : {A : Type 0} (payloads : List (Vec ℕ A)) → 1 ≤ length payloads → 1 ≤ length (payloads_of payloads)
some_payloads [] some = some
some_payloads (payload ∷ payloads) some = omega arith

rest_alone : (frames : Tail) (rest : List ℕ) → frames ≡ Rest rest → ¬ IsWaiting frames → frames ≡ Rest []
rest_alone frames [] is alone = is
rest_alone frames (b ∷ rest) is alone = absurd (alone (subst IsWaiting (sym is) (omega arith)))

not_bad : (b : Bool) → not b ≡ false → b ≡ true
not_bad true is = refl
not_bad false is = sym is

-- one reply came
pub replied_once : (old new : List ℕ) (payloads : List (List ℕ)) (frames : Tail) (said : Outcome) → HasRead old new payloads frames → IsSoleReply payloads frames said → Replies false said old new
replied_once old new payloads frames said has sole = record {
  gained = has.gained;
  payloads = payloads;
  appended = has.appended;
  read = subst (λ (t : Tail). IsFrames has.gained payloads t) (rest_alone frames has.rest has.waits sole.alone) has.read;
  awaited_so = (sole.reply, sole.one, sole.gives);
}

greeted : (first greeting : List ℕ) (before more replies : List (List ℕ)) → greeting ∷ replies ≡ (first ∷ before) ++ more → first ≡ greeting
greeted first greeting before more replies is = ap (λ (l : List (List ℕ)). elim l [ [] ↦ first | x ∷ xs ↦ x ]) (sym is)

greets_first : (greeting : List ℕ) (before more replies : List (List ℕ)) → 1 ≤ length before → greets_badly before ≡ false → greeting ∷ replies ≡ before ++ more
    → is_capability (plugin_message_of greeting) ≡ true
greets_first greeting [] more replies some good is = absurd (omega arith)
greets_first greeting (first ∷ before) more replies some good is =
    not_bad _ (subst (λ (g : List ℕ). not (is_capability (plugin_message_of g)) ≡ false) (greeted first greeting before more replies is) good)

-- the greeting's answer came first, and then one reply
pub replied_both : (old new greeting : List ℕ) (before more payloads replies : List (List ℕ)) (frames : Tail) (said : Outcome) → HasRead old new payloads frames
    → 1 ≤ length before → greets_badly before ≡ false → payloads ≡ before ++ more → payloads ≡ greeting ∷ replies → IsSoleReply replies frames said
    → Replies true said old new
replied_both old new greeting before more payloads replies frames said has some good grows splits sole = record {
  gained = has.gained;
  payloads = payloads;
  appended = has.appended;
  read = subst (λ (t : Tail). IsFrames has.gained payloads t) (rest_alone frames has.rest has.waits sole.alone) has.read;
  awaited_so = (
    greeting,
    sole.reply,
    splits ∙ ap (λ (r : List (List ℕ)). greeting ∷ r) sole.one,
    greets_first greeting before more replies some good (sym splits ∙ grows),
    sole.gives,
  );
}

pub reply_says : (one other : Outcome) → response.Reply one ≡ response.Reply other → one ≡ other
reply_says one other is = cc

-- what came is not the answer

same_bytes : (start got more gained other : List ℕ) → got ≡ start ++ gained → got ++ more ≡ start ++ other → other ≡ gained ++ more
same_bytes start got more gained other is whole =
    append_cancel_left start other (gained ++ more) (sym whole ∙ ap (λ (g : List ℕ). g ++ more) is ∙ append_assoc start gained more)

rest_is : (bytes : List ℕ) (payloads : List (List ℕ)) (tail : Tail) (rest : List ℕ) → IsFrames bytes payloads tail → payloads ≡ [] → tail ≡ Rest rest → bytes ≡ rest
rest_is bytes payloads tail rest (unfinished _ u) none is = cc
rest_is bytes payloads tail rest (too_long _ len b) none is = absurd (cc)
rest_is bytes payloads tail rest (frame _ payload more later _ b f) none is = absurd (cc)

nothing_waits : (frames : Tail) (rest more : List ℕ) → frames ≡ Rest rest → rest ++ more ≡ [] → ¬ IsWaiting frames
nothing_waits frames [] more is none = λ waits. let less : 0 < 0 = subst IsWaiting is waits in absurd (omega (arith, less))
nothing_waits frames (b ∷ rest) more is none = absurd (cc)

-- what is read of more bytes begins with the payloads that were read so far
record GoesOn (payloads whole : List (List ℕ)) (frames : Tail) : Type 0 where
  later : List (List ℕ)
  appended : whole ≡ payloads ++ later
  alone : later ≡ [] → ¬ IsWaiting frames

reads_on : (start got more : List ℕ) (payloads : List (List ℕ)) (frames : Tail) (first : Bool) (said : Outcome) → EachListIsFrames → OneReading → FramesGoOn
    → HasRead start got payloads frames → (replies : Replies first said start (got ++ more)) → GoesOn payloads replies.payloads frames
reads_on start got more payloads frames first said some one goes has replies =
    let bytes : replies.gained ≡ has.gained ++ more = same_bytes start got more has.gained replies.gained has.appended replies.appended in
    let next = some (has.rest ++ more) in
    let same = one replies.gained replies.payloads (payloads ++ next.0) (Rest []) next.1 replies.read
    (subst (λ (b : List ℕ). IsFrames b (payloads ++ next.0) next.1) (sym bytes)
    (goes has.gained more has.rest payloads next.0 next.1 (subst (λ (t : Tail). IsFrames has.gained payloads t) has.waits has.read) next.2)) in
    record {
      later = next.0;
      appended = same.0;
      alone = λ none. nothing_waits frames has.rest more has.waits (rest_is (has.rest ++ more) next.0 next.1 [] next.2 none (sym same.1));
    }

one_alone : (first later : List (List ℕ)) (reply : List ℕ) → 1 ≤ length first → first ++ later ≡ reply ∷ [] → (first ≡ reply ∷ []) × (later ≡ [])
one_alone [] later reply some is = absurd (omega (arith, some))
one_alone (a ∷ []) later reply some is = (cc, cc)
one_alone (a ∷ b ∷ more) later reply some is = absurd (cc)

pub never_sole : (start got : List ℕ) (payloads : List (List ℕ)) (frames : Tail) → EachListIsFrames → OneReading → FramesGoOn → HasRead start got payloads frames
    → 1 ≤ length payloads → ((said : Outcome) → ¬ IsSoleReply payloads frames said) → NeverReplies false start got
never_sole start got payloads frames some one goes has enough none more said replies =
    let on = reads_on start got more payloads frames false said some one goes has replies in
    let awaited = replies.awaited_so in
    let alone = one_alone payloads on.later awaited.0 enough (sym on.appended ∙ awaited.1) in
    none said (record { reply = awaited.0; one = alone.0; gives = awaited.2; alone = on.alone alone.1 })

pub never_both : (start got greeting : List ℕ) (payloads answers : List (List ℕ)) (frames : Tail) → EachListIsFrames → OneReading → FramesGoOn
    → HasRead start got payloads frames → 2 ≤ length payloads → payloads ≡ greeting ∷ answers → ((said : Outcome) → ¬ IsSoleReply answers frames said)
    → NeverReplies true start got
never_both start got greeting payloads answers frames some one goes has enough splits none more said replies =
    let on = reads_on start got more payloads frames true said some one goes has replies in
    let awaited = replies.awaited_so in
    let whole : greeting ∷ (answers ++ on.later) ≡ awaited.0 ∷ (awaited.1 ∷ []) =
    sym (ap (λ (p : List (List ℕ)). p ++ on.later) splits) ∙ sym on.appended ∙ awaited.2 in
    let behind : answers ++ on.later ≡ awaited.1 ∷ [] = cc in
    let alone = one_alone answers on.later awaited.1 (omega (arith, enough, ap length splits)) behind in
    none said (record { reply = awaited.1; one = alone.0; gives = awaited.4; alone = on.alone alone.1 })

pub never_greeted : (start got : List ℕ) (payloads : List (List ℕ)) (frames : Tail) → EachListIsFrames → OneReading → FramesGoOn → HasRead start got payloads frames
    → 1 ≤ length payloads → greets_badly payloads ≡ true → NeverReplies true start got
never_greeted start got payloads frames some one goes has enough bad more said replies =
    let on = reads_on start got more payloads frames true said some one goes has replies in
    let awaited = replies.awaited_so in
    let good : greets_badly replies.payloads ≡ false = greeting_stands awaited.0 replies.payloads (awaited.1 ∷ []) awaited.2 awaited.3 in
    let same : greets_badly replies.payloads ≡ greets_badly payloads = ap greets_badly on.appended ∙ greets_same payloads on.later enough in
    absurd (cc)

pub never_long : (start got : List ℕ) (first : Bool) → OneReading → LengthStays → HasMetLength start got → NeverReplies first start got
never_long start got first one stays has more said replies =
    let bytes : replies.gained ≡ has.gained ++ more = same_bytes start got more has.gained replies.gained has.appended replies.appended in
    let same = one replies.gained replies.payloads has.payloads (Rest []) (Length has.len) replies.read
    (subst (λ (b : List ℕ). IsFrames b has.payloads (Length has.len)) (sym bytes) (stays has.gained more has.payloads has.len has.read)) in
    let tails : Rest [] ≡ Length has.len = same.1 in
    absurd (cc)

same_payloads : (start got : List ℕ) (payloads : List (List ℕ)) (frames : Tail) (first : Bool) (said : Outcome) → OneReading → HasRead start got payloads frames
    → (replies : Replies first said start got) → payloads ≡ replies.payloads
same_payloads start got payloads frames first said one has replies =
    (one has.gained payloads replies.payloads frames (Rest []) has.read
    (subst (λ (b : List ℕ). IsFrames b replies.payloads (Rest [])) (append_cancel_left start replies.gained has.gained (sym replies.appended ∙ has.appended)) replies.read)).0

pub none_came : (start got : List ℕ) (payloads : List (List ℕ)) (frames : Tail) → OneReading → HasRead start got payloads frames → length payloads < 1
    → HasNoReply false start got
none_came start got payloads frames one has few said replies =
    let same : payloads ≡ replies.payloads = same_payloads start got payloads frames false said one has replies in
    absurd (omega (arith, few, ap length same, ap length replies.awaited_so.1))

pub not_both_came : (start got : List ℕ) (payloads : List (List ℕ)) (frames : Tail) → OneReading → HasRead start got payloads frames → length payloads < 2
    → HasNoReply true start got
not_both_came start got payloads frames one has few said replies =
    let same : payloads ≡ replies.payloads = same_payloads start got payloads frames true said one has replies in
    absurd (omega (arith, few, ap length same, ap length replies.awaited_so.2))

pub one_fewer : (count : ℕ) → count < 1 → count < 2
one_fewer count few = omega (arith, few)

-- as many payloads, wherever they lie in memory
pub fewer_payloads : {A : Type 0} (payloads : List (Vec ℕ A)) (count : ℕ) → length payloads < count → length (payloads_of payloads) < count
fewer_payloads {A = A} payloads count few = omega (arith, few, length-map payloads (λ (p : Vec ℕ A). p.items))

pub enough_payloads : {A : Type 0} (payloads : List (Vec ℕ A)) (count : ℕ) → count ≤ length payloads → count ≤ length (payloads_of payloads)
enough_payloads {A = A} payloads count enough = omega (arith, enough, length-map payloads (λ (p : Vec ℕ A). p.items))

-- a whole piece was fed, and a length above the limit stands in it
met_length : {A : Type 0} (start got next piece : List ℕ) (before after : SourceSeen) (old new : List (Vec ℕ A)) (frames then : Tail) (len : ℕ)
    → FramesGoOn → HasRead start got (payloads_of old) frames → Gains before got after next → piece ≡ drop (length got) next
    → then ≡ Length len → ReadsOn frames piece old new then → HasMetLength start next
met_length start got next piece before after old new frames then len goes_on has gains behind is reads =
    let fed : piece ≡ gains.gained = behind ∙ drop-appended got next gains.gained gains.appended in
    record {
      gained = has.gained ++ piece;
      payloads = payloads_of new;
      len = len;
      appended =
          gains.appended ∙ ap (λ (g : List ℕ). g ++ gains.gained) has.appended ∙ append_assoc start has.gained gains.gained
          ∙ ap (λ (p : List ℕ). start ++ (has.gained ++ p)) (sym fed);
      read =
          subst (λ (p : List (List ℕ)). IsFrames (has.gained ++ piece) p (Length len)) (sym reads.read.appended)
          (goes_on has.gained piece reads.rest (payloads_of old) reads.read.payloads (Length len)
          (subst (λ (t : Tail). IsFrames has.gained (payloads_of old) t) reads.held has.read)
          (subst (λ (t : Tail). IsFrames (reads.rest ++ piece) reads.read.payloads t) is reads.read.frames));
    }

pub met_fault : {A : Type 0} (start got next piece : List ℕ) (before after : SourceSeen) (old new : List (Vec ℕ A)) (frames then : Tail) (met : FrameFault)
    → FramesGoOn → HasRead start got (payloads_of old) frames → Gains before got after next → piece ≡ drop (length got) next
    → Refuses (Fault met) frames piece old new then → HasMetLength start next
met_fault start got next piece before after old new frames then (fault.TooLong len) goes_on has gains behind (is, reads) =
    met_length start got next piece before after old new frames then len goes_on has gains behind is reads
met_fault start got next piece before after old new frames then (fault.Dead len) goes_on has gains behind (held, same, kept) =
    let tails : Rest has.rest ≡ Length len = sym has.waits ∙ held in
    absurd (cc)
