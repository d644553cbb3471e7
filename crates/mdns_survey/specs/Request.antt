-- What is asked of captures, and as of when.
use Rattle.std.specs.Prelude.{◌<◌, [], Option, Some, None}
use Rattle.mdns_capture.specs.declared.moment.Moment.{Moment}
use Rattle.mdns_browse.specs.declared.report.{Ask.{Ask}, Form.TheVariants.{Lines}}
use Rattle.mdns_survey.specs.declared.request.{AsOf.{AsOf}, AsOf.TheVariants.{Newest, At, Before}, ReportRequest.{ReportRequest}}
use Rattle.mdns_survey.specs.declared.request.{Request.{Request}, What.{What}}
use Rattle.mdns_survey.specs.declared.request.Request.TheVariants as request
use Rattle.mdns_survey.specs.declared.request.What.TheVariants as what

-- at the moment, or without one as of the newest hearing
abbrev pub at_or_newest : Option Moment → AsOf
at_or_newest (Some moment) = At moment
at_or_newest None = Newest

-- the moment that is given
abbrev pub moment_of : AsOf → Option Moment
moment_of Newest = None
moment_of (At moment) = Some moment
moment_of (Before moment) = Some moment

-- the moment asked for is earlier than that of the newest hearing; where the hearings before it count, none is newer
abbrev pub IsEarly : AsOf → Moment → Type 0
IsEarly (At moment) newest = moment.nanos < newest.nanos
IsEarly _ newest = ⊥

-- the report in lines of words on all hearings, about everything
abbrev pub plain_request : Ask → Option Moment → ReportRequest
plain_request ask at = record { ask = ask; form = Lines; as_of = at_or_newest at; about = [] }

-- what a plain request asks for, in lines of words
abbrev pub request_of : What → Request
request_of (what.Report ask at) = request.Report (plain_request ask at)
request_of what.Check = request.Check
