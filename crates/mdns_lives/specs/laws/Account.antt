-- Accounts are joined by laws.
use Rattle.mdns_join.specs.laws.Latest.{later-laws}
use Rattle.join_map.specs.Join.{JoinLaws}
use Rattle.mdns_cache.proofs.ContentsLemmas.{newer-same, newer-comm, newer-assoc}
use Rattle.mdns_lives.specs.{Account.{account, join_account, IsAccount}, laws.Seconds.{seconds-laws}}

pub account-laws : JoinLaws IsAccount join_account
account-laws = record {
  idempotent = λ a u. (let l = later-laws.idempotent a.latest tt in
      let h = seconds-laws.idempotent a.history u in λ i. account (l i) (h i) (newer-same a.goodbye i));
  commutative = λ a b u v. (let l = later-laws.commutative a.latest b.latest tt tt in
      let h = seconds-laws.commutative a.history b.history u v in λ i. account (l i) (h i) (newer-comm a.goodbye b.goodbye i));
  associative = λ a b c u v w. (let l = later-laws.associative a.latest b.latest c.latest tt tt tt in
      let h = seconds-laws.associative a.history b.history c.history u v w in
      λ i. account (l i) (h i) (newer-assoc a.goodbye b.goodbye c.goodbye i));
  keeps = λ a b u v. seconds-laws.keeps a.history b.history u v;
}
