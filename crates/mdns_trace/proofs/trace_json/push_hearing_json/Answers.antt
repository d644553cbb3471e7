use Rattle.mdns_trace.specs.TraceJson.{hearing_json}
use Rattle.mdns_trace.proofs.MemberLemmas.{object-after}
use Rattle.mdns_trace.proofs.trace_json.push_hearing_json.Goals as goal

pub returns : goal.returns
unfolding hearing_json lib.Utf8.encode
returns c =
    object-after _ _ _ _ _ _ _ _ _ _ _ _ _ _ _ c.in_ok-push.ensures.bytes c.in_ok-push_moment_member.ensures
    c.in_ok-push_text_member.ensures c.in_ok-push_source_member.ensures c.in_ok-push_resource_members.ensures
    c.in_ok-push_number_member.ensures c.in_ok-push_flush_member.ensures c.in_ok-push_str.ensures.bytes
