-- What a capture lost, and what to do about it.
use Rattle.std.specs.Prelude.{ℕ, ◌==◌, if◌then◌else◌, List, [], ◌∷◌, ◌++◌, codes, decimal}
use Rattle.mdns_capture.specs.declared.cause.Cause.TheVariants as cause
use Rattle.mdns_survey.specs.declared.outcome.SkipReason.TheVariants as why
use Rattle.mdns_survey.specs.{declared.reading.Reading.{Reading}, Skips.{count_of}, Reasons.{row_of}}
use Rattle.mdns_trace.specs.declared.loss.{Loss.{Loss}, Loss.TheVariants.{Check, Damage}}

-- each check for which packets are lost, in the order of the checks, and damage of messages
abbrev pub losses : List Loss
losses =
    Check cause.EthernetCut ∷ Check cause.VlanTag ∷ Check cause.HeaderCut ∷ Check cause.IpHeader ∷ Check cause.TotalLength
    ∷ Check cause.DatagramCut ∷ Check cause.Fragment ∷ Check cause.FragmentHeader ∷ Check cause.UdpLength ∷ Damage ∷ []

-- how many packets were lost to it
abbrev pub lost_to : Loss → Reading → ℕ
lost_to (Check cause) reading = count_of (why.Frame cause) reading.skips
lost_to Damage reading = reading.summary.tally.refused

abbrev pub words_of : Loss → List ℕ
words_of (Check cause) = (row_of (why.Frame cause)).words
words_of Damage = codes "refused"

-- what to do about it, and nothing where other traffic fails the check
abbrev pub cure_of : Loss → List ℕ
cure_of (Check cause.EthernetCut) = codes "bytes are missing, record with tcpdump -s 0"
cure_of (Check cause.VlanTag) =
    codes "take one VLAN: tcpdump --nano -r FILE -w TAGGED vlan ID; then editcap -F nsecpcap -L -C 12:4 TAGGED NEW"
cure_of (Check cause.HeaderCut) = codes "bytes are missing, record with tcpdump -s 0"
cure_of (Check cause.IpHeader) = codes "a broken sender, or a damaged capture"
cure_of (Check cause.TotalLength) = codes "a broken sender, or a damaged capture"
cure_of (Check cause.DatagramCut) = codes "bytes are missing, record with tcpdump -s 0"
cure_of (Check cause.Fragment) = codes "what it told is missing, unless another message told it"
cure_of (Check cause.FragmentHeader) = codes "what it told is missing, unless another message told it"
cure_of (Check cause.UdpLength) = codes "a broken sender, or a damaged capture"
cure_of (Check cause) = []
cure_of Damage = codes "a broken sender, or a damaged capture; mdnswhy packets tells where"

-- its line in a file of that name; nothing where no packet was lost to it
unfoldable pub loss_text : List ℕ → Reading → Loss → List ℕ
loss_text file reading loss =
    if lost_to loss reading == 0 then []
    else file ++ codes " lost " ++ decimal (lost_to loss reading) ++ 32 ∷ words_of loss ++ codes ": " ++ cure_of loss ++ 10 ∷ []
