mod FilesLemmas
mod FlawLemmas
mod MemberLemmas
mod SpanLemmas
mod TraceLemmas
mod UsableLemmas
mod VerdictLemmas
