use Rattle.std.proofs.Common.{length, ap, arith}
use Rattle.plugin_frames.proofs.Feedings.{IsBegun-of, begun_within, Appends-header, Appends-length, Appends-payload, Appends-frame}
use Rattle.plugin_frames.proofs.reader.read_begun.Goals as goal

pub returns-in_default-clause-ok : goal.returns-in_default-clause-ok
returns-in_default-clause-ok c =
    Appends-header _ _ _ _ c.in_ok-behind.ensures.whole (omega (arith, c.in_default.ensures.cases, ap length c.deref.ensures.value)) c.in_ok-behind.ensures.full

pub returns-then-len-gt-LARGEST_PAYLOAD-clause-ok : goal.returns-then-len-gt-LARGEST_PAYLOAD-clause-ok
returns-then-len-gt-LARGEST_PAYLOAD-clause-ok c =
    let cases = c.in-Some.ensures.cases in
    let begun = IsBegun-of _ _ _ _ _ _ _ c.in_ok-behind.ensures.whole c.deref.ensures.value cases.0 cases.1 cases.2 c.length_in-len.ensures in
    Appends-length _ _ _ _ _ _ begun c.if-len-gt-LARGEST_PAYLOAD.true

pub overflow_sub-missing : goal.overflow_sub-missing
overflow_sub-missing c =
    let cases = c.in-Some.ensures.cases in
    let begun = IsBegun-of _ _ _ _ _ _ _ c.in_ok-behind.ensures.whole c.deref.ensures.value cases.0 cases.1 cases.2 c.length_in-len.ensures in
    begun_within _ _ _ _ _ _ begun c.requires c.in_ok-behind.ensures.header c.if-len-gt-LARGEST_PAYLOAD.false

pub returns-then-behind-missing-clause-ok : goal.returns-then-behind-missing-clause-ok
returns-then-behind-missing-clause-ok c =
    let cases = c.in-Some.ensures.cases in
    let begun = IsBegun-of _ _ _ _ _ _ _ c.in_ok-behind.ensures.whole c.deref.ensures.value cases.0 cases.1 cases.2 c.length_in-len.ensures in
    Appends-payload _ _ _ _ _ _ _ begun c.if-len-gt-LARGEST_PAYLOAD.false c.in_ok-extend_from_slice.ensures.items (omega arith)

pub returns-clause-ok : goal.returns-clause-ok
returns-clause-ok c =
    let cases = c.in-Some.ensures.cases in
    let begun = IsBegun-of _ _ _ _ _ _ _ c.in_ok-behind.ensures.whole c.deref.ensures.value cases.0 cases.1 cases.2 c.length_in-len.ensures in
    let within = begun_within _ _ _ _ _ _ begun c.requires c.in_ok-behind.ensures.header c.if-len-gt-LARGEST_PAYLOAD.false in
    Appends-frame _ _ _ _ _ _ _ _ _ _ _ begun c.if-len-gt-LARGEST_PAYLOAD.false c.split_at.ensures.by_index.0 (omega (arith, within, c.split_at.ensures.front_len)) c.in_ok-payload.ensures c.in_ok-take_frames.ensures.ok
