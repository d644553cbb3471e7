-- Each record has a list of lives.
use Rattle.std.proofs.Common.{arith, ◌≡◌, ◌↔◌, ◌⊎◌, Bool, true, false, List, [], ◌∷◌, Contains, refl, sym, ap, ◌∙◌, subst}
use Rattle.std.proofs.Common.{inl, inr, map, true≢false}
use Rattle.std.specs.{Ordering.{is_eq}, Cmp.{tied_itself}}
use Rattle.mdns_message.specs.{declared.hearing.Hearing.{Hearing}, declared.key.Key.{Key}, Resource.{key_of, key_cmp}}
use Rattle.mdns_message.specs.laws.Resource.{key_cmp-total, key_cmp-exact}
use Rattle.join_map.specs.laws.Entries.{is_Equal}
use Rattle.mdns_cache.specs.Live.{flush_moments}
use Rattle.mdns_lives.specs.{declared.life.RecordHearing.{RecordHearing}, declared.life.Life.{Life}, Lives.{AreLives, goodbyes_of}}
use Rattle.mdns_lives.specs.{History.{heard_of, IsHeardAs, IsHistory, AreFlushes, IsUpTo, AreInOrder}, LifeWalk.{walked, with_taken_back}}
use Rattle.mdns_cache.proofs.StandsPartLemmas.{Contains-nil, Contains-head, Contains-later, Contains-cases}
use Rattle.mdns_lives.proofs.{OrderLemmas.{IsUpTo-onward, either_order, first_least, in_order-rest}, WalkLemmas.{AreLivesBy-walked}}
use Rattle.mdns_lives.proofs.{BridgeLemmas.{SomeLast, AreLives-from_history}, GoodbyeLemmas.{some_newest}}

-- hearings in order with one more at its place
record IsPut (h : RecordHearing) (hs put : List RecordHearing) : Type 0 where
  pub in_order : AreInOrder put
  pub exactly : (x : RecordHearing) → Contains put x ↔ ((h ≡ x) ⊎ Contains hs x)

cons-exactly : (h : RecordHearing) (hs : List RecordHearing) (x : RecordHearing) → Contains (h ∷ hs) x ↔ ((h ≡ x) ⊎ Contains hs x)
cons-exactly h hs x = grind (arith, Contains-cases, Contains-head, Contains-later)

-- a hearing that counts no more than h, before hearings in order with h put among them
before_put : (g h : RecordHearing) (hs put : List RecordHearing) → AreInOrder (g ∷ hs) → IsUpTo g h → IsPut h hs put → AreInOrder (g ∷ put)
before_put g h hs [] o b p = tt
before_put g h hs (x ∷ xs) o b p = (
  elim ((p.exactly x).0 (Contains-head x xs)) [
    | inl same ↦ subst (λ (y : RecordHearing). IsUpTo g y) same b
    | inr rest ↦ up_to hs o x rest
  ],
  p.in_order,
)
  where
    up_to : (ys : List RecordHearing) → AreInOrder (g ∷ ys) → (y : RecordHearing) → Contains ys y → IsUpTo g y
    up_to [] o y m = absurd (Contains-nil y m)
    up_to (z ∷ zs) o y m = IsUpTo-onward g z y o.0 (first_least z zs o.1 y m)

put : (h : RecordHearing) (hs : List RecordHearing) → AreInOrder hs → (put : List RecordHearing) × IsPut h hs put
put h [] o = (h ∷ [], record { in_order = tt; exactly = cons-exactly h [] })
put h (g ∷ gs) o =
    elim (either_order h g) [
      | inl up ↦ (h ∷ g ∷ gs, record { in_order = (up, o); exactly = cons-exactly h (g ∷ gs) })
      | inr down ↦ (let rest = put h gs (in_order-rest g gs o) in (
        g ∷ rest.0,
        record {
          in_order = before_put g h gs rest.0 o down rest.1;
          exactly = λ x. (
            λ m. elim (Contains-cases g rest.0 x m) [
              | inl same ↦ inr (subst (λ (y : RecordHearing). Contains (g ∷ gs) y) same (Contains-head g gs))
              | inr later ↦ elim ((rest.1.exactly x).0 later) [ inl same ↦ inl same | inr among ↦ inr (Contains-later g gs x among) ]
            ],
            λ w. elim w [
              | inl same ↦ Contains-later g rest.0 x ((rest.1.exactly x).1 (inl same))
              | inr among ↦ elim (Contains-cases g gs x among) [
                | inl same ↦ subst (λ (y : RecordHearing). Contains (g ∷ rest.0) y) same (Contains-head g rest.0)
                | inr later ↦ Contains-later g rest.0 x ((rest.1.exactly x).1 (inr later))
              ]
            ],
          );
        },
      ))
    ]

-- the history of a record, in order
pub record HasHistory (heard : List Hearing) (key : Key) : Type 0 where
  pub history : List RecordHearing
  pub in_order : AreInOrder history
  pub is_history : IsHistory heard key history

later-heard : (h : Hearing) (hs : List Hearing) (key : Key) (x : RecordHearing) → IsHeardAs hs key x → IsHeardAs (h ∷ hs) key x
later-heard h hs key x w = search (arith, Contains-later)

pub some_history : (heard : List Hearing) (key : Key) → HasHistory heard key
some_history [] key = grind (arith, Contains-nil)
some_history (h ∷ hs) key =
    by (some_history hs key) (is_eq (key_cmp key (key_of h.heard))) refl
  where
    by : (rest : HasHistory hs key) (b : Bool) → is_eq (key_cmp key (key_of h.heard)) ≡ b → HasHistory (h ∷ hs) key
    by rest true e =
        let same : key ≡ key_of h.heard = key_cmp-exact key (key_of h.heard) (is_Equal (key_cmp key (key_of h.heard)) e) in
        let more = put (heard_of h) rest.history rest.in_order in
        record {
          history = more.0;
          in_order = more.1.in_order;
          is_history = λ x. (
            λ m. elim ((more.1.exactly x).0 m) [
              | inl is ↦ record { hearing = h; among = Contains-head h hs; of_record = sym same; gives = is }
              | inr among ↦ later-heard h hs key x ((rest.is_history x).0 among)
            ],
            λ w. (more.1.exactly x).1 (elim (Contains-cases h hs w.hearing w.among) [
              | inl is ↦ inl (subst (λ (y : Hearing). heard_of y ≡ x) (sym is) w.gives)
              | inr later ↦ inr ((rest.is_history x).1
                  (record { hearing = w.hearing; among = later; of_record = w.of_record; gives = w.gives }))
            ]),
          );
        }
    by rest false e =
        record {
          history = rest.history;
          in_order = rest.in_order;
          is_history = λ x. (
            λ m. later-heard h hs key x ((rest.is_history x).0 m),
            λ w. elim (Contains-cases h hs w.hearing w.among) [
              | inl is ↦ absurd (true≢false (sym (ap is_eq (tied_itself key_cmp-total key))
                  ∙ ap (λ (k : Key). is_eq (key_cmp key k)) (sym (subst (λ (y : Hearing). key_of y.heard ≡ key) (sym is) w.of_record)) ∙ e))
              | inr later ↦ (rest.is_history x).1
                  (record { hearing = w.hearing; among = later; of_record = w.of_record; gives = w.gives })
            ],
          );
        }

pub some_lives : SomeLast → (heard : List Hearing) (key : Key) → AreFlushes heard key.set (flush_moments heard key.set)
    → (lives : List Life) × AreLives heard key lives
some_lives last heard key are =
    let h = some_history heard key in
    let flushes = flush_moments heard key.set in
    let goodbye = some_newest (goodbyes_of heard key) in (
      map (with_taken_back goodbye.0) (walked flushes h.history),
      AreLives-from_history last heard key h.history flushes h.is_history are goodbye.0 goodbye.1 (walked flushes h.history)
          (AreLivesBy-walked flushes h.history h.in_order),
    )
