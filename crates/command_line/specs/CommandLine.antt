-- The command lines of `mdnsmerge` and `mdnswhy`, and what clap's matches of them ask for.
use Rattle.std.specs.Prelude.{◌≡◌, ⊤, ◌++◌, ◌∷◌, Bool, List, Option, Some, None, Ok, codes}
use Rattle.std.specs.Prelude.{map, if◌then◌else◌, string_bytes, true, false, []}
use Rattle.clap.specs.Words.{App, Row, Text}
use Rattle.mdns_capture.specs.declared.moment.Moment.{Moment}
use Rattle.mdns_lives.specs.{Window.{is_reversed}, declared.window.Window.{Window}}
use Rattle.mdns_lives.specs.declared.life.Which.TheVariants as which
use Rattle.mdns_browse.specs.declared.report.{Ask.{Ask}, Form.{Form}}
use Rattle.mdns_browse.specs.declared.report.Ask.TheVariants as ask
use Rattle.mdns_browse.specs.declared.report.Form.TheVariants as form
use Rattle.mdns_survey.specs.declared.request.{What.{What}, AsOf.{AsOf}, AsOf.TheVariants.{Newest, At, Before}}
use Rattle.mdns_survey.specs.declared.request.What.TheVariants as what
use Rattle.mdns_survey.specs.declared.request.Request.TheVariants as request
use Rattle.mdns_listeners.specs.Groups.{unfit_prefix}
use Rattle.mdns_trace.specs.declared.inquiry.Inquiry.{Inquiry}
use Rattle.mdns_trace.specs.declared.inquiry.Inquiry.TheVariants as inquiry
use Rattle.mdns_trace.specs.declared.inquiry.Trace.TheVariants as trace
use Rattle.command_line.specs.declared.{line.Takes.{Takes}, mdnsmerge.Asks.{Asks}, options.Options.{Options}, scope.Scope.{Scope}}
use Rattle.command_line.specs.declared.words.{Job.{Job}, Task.{Task}, Task.TheVariants.{Survey, Services, Page}, WhyAsks.{WhyAsks}}
use Rattle.command_line.specs.Line.{AsksIn, AsksWith, Flags, HasOptions, Table, common_forms, form_flags, line_with, people_forms, text_of}
use Rattle.command_line.specs.Moments.{IsMomentText}
use Rattle.command_line.specs.declared.line.Takes.TheVariants as takes
use Rattle.command_line.specs.declared.mdnsmerge.Asks.TheVariants as asks

-- ---- the flags

-- the flags of the moment as of which an answer is made
abbrev pub as_of_flags : Flags
as_of_flags = (codes "at", takes.Moment) ∷ (codes "before", takes.Moment) ∷ []

-- the flags of the window of the moments that are listed
abbrev pub window_flags : Flags
window_flags = (codes "since", takes.Moment) ∷ (codes "until", takes.Moment) ∷ []

abbrev pub listener_flag : Text × Takes
listener_flag = (codes "listener", takes.Words)

-- the flag that asks for the lives of service instances
abbrev pub services_flag : Text × Takes
services_flag = (codes "services", takes.Switch)

-- the flags of the words that an answer is about
abbrev pub word_flags : Flags
word_flags = (codes "about", takes.Words) ∷ (codes "printers", takes.Switch) ∷ []

-- the flags that all outputs of captures take
abbrev pub capture_flags : Flags
capture_flags = (codes "skip-unusable", takes.Switch) ∷ []

-- the flags of a report that `told` reads
abbrev pub told_flags : Flags
told_flags = (codes "at", takes.Seconds) ∷ []

-- the flags of a report
abbrev pub report_flags : Flags
report_flags = as_of_flags ++ (word_flags ++ (capture_flags ++ form_flags))

-- the flags of lives
abbrev pub lives_flags : Flags
lives_flags = as_of_flags ++ (window_flags ++ (word_flags ++ services_flag ∷ (capture_flags ++ form_flags)))

-- the flags of changes
abbrev pub changes_flags : Flags
changes_flags = as_of_flags ++ (window_flags ++ (word_flags ++ (capture_flags ++ form_flags)))

-- the flags of the page, which has one form
abbrev pub page_flags : Flags
page_flags = as_of_flags ++ (window_flags ++ (word_flags ++ listener_flag ∷ capture_flags))

-- the flags of the spans; those of the files are `common_forms`
abbrev pub spans_flags : Flags
spans_flags = capture_flags ++ people_forms

-- the flags of the hearings and of the packets
abbrev pub hearings_flags : Flags
hearings_flags = window_flags ++ (word_flags ++ (capture_flags ++ form_flags))

abbrev pub packets_flags : Flags
packets_flags = window_flags ++ spans_flags

-- the flags of what is written of listeners
abbrev pub listeners_flags : Flags
listeners_flags = listener_flag ∷ spans_flags

-- ---- the moments

-- the text is given, and names the moment
abbrev pub Names : Option Text → Moment → Type 0
Names None moment = ⊥
Names (Some text) moment = IsMomentText text moment

-- as of the newest hearing, or of the moment that the text of `--at` or of `--before` names
abbrev pub GivesAsOf : Option Text → Option Text → AsOf → Type 0
GivesAsOf at before Newest = (at ≡ None) × (before ≡ None)
GivesAsOf at before (At moment) = Names at moment × (before ≡ None)
GivesAsOf at before (Before moment) = (at ≡ None) × Names before moment

-- a bound of the window is the moment that the text names, and there is none without a text
abbrev pub IsBound : Option Text → Option Moment → Type 0
IsBound text None = text ≡ None
IsBound text (Some moment) = Names text moment

-- the texts of `--since` and of `--until` give this window, whose bounds are reversed or not
abbrev pub GivesWindow : Option Text → Option Text → Bool → Window → Type 0
GivesWindow since until reversed window = IsBound since window.since × IsBound until window.until
    × (is_reversed window.since window.until ≡ reversed)

-- ---- what options give

-- these options give the form and the window
abbrev pub MakesFormWindow : Options → Form × Window → Type 0
MakesFormWindow options made = (options.form ≡ Ok made.0) × GivesWindow (text_of options.since) (text_of options.until) false made.1

-- the matches give these options, with the form and the window that they give
abbrev pub GivesScope : List Row → Scope → Type 0
GivesScope rows scope = HasOptions rows scope.options × MakesFormWindow scope.options (scope.form, scope.window)

-- ---- `mdnsmerge`

-- the subcommand of each report that `told` reads
abbrev pub reports : List (Text × Ask)
reports = (codes "records", ask.Records) ∷ (codes "types", ask.Types) ∷ (codes "instances", ask.Instances) ∷ []

-- these, and the check
abbrev pub whats : Table (Option Ask)
whats = map (λ row. (row.0, told_flags, Some row.1)) reports ++ (codes "check", [], None) ∷ []

-- the command line of `mdnsmerge` for plain requests
abbrev pub command_line : App
command_line = line_with (codes "mdnsmerge") false whats

-- the subcommands that `asked` reads
abbrev pub tasks : Table Asks
tasks = map (λ row. (row.0, report_flags, asks.Report row.1)) reports
    ++ (codes "hosts", report_flags, asks.Report ask.Hosts)
    ∷ (codes "lives", lives_flags, asks.Lives which.All)
    ∷ (codes "changes", changes_flags, asks.Lives which.Changes)
    ∷ (codes "page", page_flags, asks.Page)
    ∷ (codes "check", capture_flags, asks.Check) ∷ []

-- the whole command line of `mdnsmerge`
abbrev pub command_line_with_past : App
command_line_with_past = line_with (codes "mdnsmerge") true tasks

abbrev pub what_of : Option Ask → Option Moment → What
what_of (Some ask) at = what.Report ask at
what_of None at = what.Check

-- a subcommand with these matches asks for this
abbrev pub AsksWhat : Text → List Row → What → Type 0
AsksWhat name rows what = (asked : Option Ask × Option Moment) × AsksIn whats name rows asked × (what ≡ what_of asked.0 asked.1)

-- what a subcommand asks for, as of when, and as the options say
abbrev pub task_of : Asks → AsOf → Scope → Task
task_of (asks.Report ask) as_of scope =
    Survey (request.Report (record { ask = ask; form = scope.form; as_of = as_of; about = scope.options.lists.about }))
task_of (asks.Lives which) as_of scope =
    if scope.options.services then Services scope.form as_of scope.window scope.options.lists.about
    else Survey (request.Lives (record {
      which = which;
      form = scope.form;
      as_of = as_of;
      window = scope.window;
      about = scope.options.lists.about;
    }))
task_of asks.Page as_of scope = Page as_of scope.window scope.options.lists.about scope.options.lists.listeners
task_of asks.Check as_of scope = Survey request.Check

-- each prefix of a listener fits one of the files
abbrev pub HasFitting : Task → List Text → Type 0
HasFitting (Survey request) names = ⊤
HasFitting (Services form as_of window about) names = ⊤
HasFitting (Page as_of window about listeners) names = unfit_prefix (map string_bytes listeners.items) names ≡ None

abbrev pub job_of : Asks → AsOf → Scope → Job
job_of own as_of scope = record { task = task_of own as_of scope; skip_unusable = scope.options.skip_unusable }

-- a subcommand with these matches asks for this
abbrev pub AsksJob : Text → List Row → Job → Type 0
AsksJob name rows job = (asked : (Asks × Option Moment) × Scope) × AsksWith (AsksIn tasks) GivesScope name rows asked
    × ((as_of : AsOf) × GivesAsOf (text_of asked.1.options.at) (text_of asked.1.options.before) as_of
    × (job ≡ job_of asked.0.0 as_of asked.1))

-- ---- `mdnswhy`

-- the subcommands, each with what it asks for where no flag asks for a form
abbrev pub inquiries : Table Inquiry
inquiries = (codes "hearings", hearings_flags, inquiry.Trace (trace.Hearings form.Lines))
    ∷ (codes "packets", packets_flags, inquiry.Trace (trace.Packets form.Lines))
    ∷ (codes "spans", spans_flags, inquiry.Trace (trace.Spans form.Lines))
    ∷ (codes "files", common_forms, inquiry.Files form.Lines)
    ∷ (codes "listeners", listeners_flags, inquiry.Listeners form.Lines) ∷ []

-- the command line of `mdnswhy`
abbrev pub why_line : App
why_line = line_with (codes "mdnswhy") true inquiries

-- the same in a form
abbrev pub in_form : Inquiry → Form → Inquiry
in_form (inquiry.Trace (trace.Hearings own)) form = inquiry.Trace (trace.Hearings form)
in_form (inquiry.Trace (trace.Packets own)) form = inquiry.Trace (trace.Packets form)
in_form (inquiry.Trace (trace.Spans own)) form = inquiry.Trace (trace.Spans form)
in_form (inquiry.Files own) form = inquiry.Files form
in_form (inquiry.Listeners own) form = inquiry.Listeners form

abbrev pub why_of : Inquiry → Scope → WhyAsks
why_of own scope = record {
  inquiry = in_form own scope.form;
  lists = scope.options.lists;
  window = scope.window;
  skip_unusable = scope.options.skip_unusable;
}

-- a subcommand with these matches asks for this
abbrev pub AsksWhy : Text → List Row → WhyAsks → Type 0
AsksWhy name rows asks = (asked : (Inquiry × Option Moment) × Scope) × AsksWith (AsksIn inquiries) GivesScope name rows asked
    × (asks ≡ why_of asked.0.0 asked.1)
