-- Live instances: their groups, and the text of a row by its pieces.
use Rattle.std.proofs.Common.{◌≡◌, refl, sym, ◌∙◌, ap, ℕ, suc, ◌+◌, ◌==◌, Bool, true, false}
use Rattle.std.proofs.Common.{if◌then◌else◌, List, [], ◌∷◌, ◌++◌, length, map, take, arith, codes}
use Rattle.std.proofs.lemmas.{Bool.Decides.{nat_tests}, List.{append-nil, append_assoc}}
use Rattle.std.specs.{List.{filter_map, flat_map, join_by}, String.{string_bytes}}
use Rattle.mdns_message.specs.Resource.{Body}
use Rattle.mdns_join.specs.declared.latest.Latest.{Latest}
use Rattle.mdns_browse.specs.Services.{AreEach, GivenRow, InstanceRow, instance_row_in}
use Rattle.mdns_browse.specs.Sheet.{Piece, server_address, servers_end, instance_text, instance_end, server_pieces}
use Rattle.mdns_browse.specs.{Sheet.{servers_pieces, instance_pieces}, declared.instance.Server.{Server}}
use Rattle.mdns_page.specs.{declared.axis.Axis.{Axis}, declared.live_sheet.LiveSheet.{LiveSheet}, Group.{grouped}, Html.{isolated}}
use Rattle.mdns_page.specs.LiveSection.{end_text, live_text, address_html, live_group, live_row, server_html, text_html}
use Rattle.mdns_page.specs.{LiveSection.{type_of}, LiveSheet.{Adds, Grows, pieces_html, pieces_next, type_begin}}
use Rattle.mdns_page.specs.laws.LiveSheet.{pieces-append}

pub each-count : {X Y : Type 0} (Is : X → Y → Type 0) (xs : List X) (ys : List Y) → AreEach Is xs ys → length xs ≡ length ys
each-count Is [] [] each = refl
each-count Is [] (y ∷ ys) each = absurd each
each-count Is (x ∷ xs) [] each = absurd each
each-count Is (x ∷ xs) (y ∷ ys) each = ap suc (each-count Is xs ys each.1)

-- ---- the text of a row, by its pieces

-- the servers of an instance
abbrev servers_html : (List ℕ → List ℕ) → List Server → List ℕ
servers_html say servers = if length servers == 0 then codes "<p>unresolved</p>" else flat_map (server_html say) servers

module _ (say : List ℕ → List ℕ) (axis : Axis) where
  -- the pieces of each value, if each of them has a text whatever is before it
  each_html : {X : Type 0} (pieces : X → List Piece) (text : X → List ℕ)
      → ((first : Bool) (x : X) → pieces_html say axis first (pieces x) ≡ text x) → (first : Bool) (xs : List X)
      → pieces_html say axis first (flat_map pieces xs) ≡ flat_map text xs
  each_html pieces text same first [] = refl
  each_html pieces text same first (x ∷ xs) = grind (arith, pieces-append, each_html pieces text same (pieces_next first (pieces x)) xs)

  further_text : (addresses : List Body)
      → pieces_html say axis false (map server_address addresses) ≡ flat_map (λ address. (32 ∷ []) ++ address_html address) addresses
  further_text [] = refl
  further_text (address ∷ addresses) = ap (λ text. (32 ∷ address_html address) ++ text) (further_text addresses)

  addresses_text : (addresses : List Body)
      → pieces_html say axis true (map server_address addresses) ≡ join_by address_html (32 ∷ []) addresses
  addresses_text [] = refl
  addresses_text (address ∷ addresses) = ap (λ text. address_html address ++ text) (further_text addresses)

  server_text : (first : Bool) (server : Server) → pieces_html say axis first (server_pieces server) ≡ server_html say server
  server_text first server = grind (arith, pieces-append, append-nil, addresses_text)

  servers_text : (first : Bool) (servers : List Server) → pieces_html say axis first (servers_pieces servers)
      ≡ servers_html say servers ++ (codes "</div>" ++ (codes "<div>"))
  servers_text first [] = simp (append_assoc, append-nil)
  servers_text first (server ∷ servers) =
      let some : (length (server ∷ servers) == 0) ≡ false = grind (arith, nat_tests) in
      pieces-append say axis first (flat_map server_pieces (server ∷ servers)) (servers_end (length (server ∷ servers) == 0) ∷ [])
      ∙ ap (λ front. front ++ pieces_html say axis (pieces_next first (flat_map server_pieces (server ∷ servers)))
      (servers_end (length (server ∷ servers) == 0) ∷ []))
      (each_html server_pieces (server_html say) server_text first (server ∷ servers))
      ∙ ap (λ (none : Bool). flat_map (server_html say) (server ∷ servers)
      ++ (((if none then codes "<p>unresolved</p>" else []) ++ codes "</div>" ++ (codes "<div>")) ++ [])) some
      ∙ ap (λ text. flat_map (server_html say) (server ∷ servers) ++ text) (append-nil (codes "</div>" ++ codes "<div>"))
      ∙ ap (λ (none : Bool). (if none then codes "<p>unresolved</p>" else flat_map (server_html say) (server ∷ servers))
      ++ (codes "</div>" ++ codes "<div>")) (sym some)

  texts_text : (first : Bool) (texts : List (List ℕ)) → pieces_html say axis first (map instance_text texts) ≡ flat_map (text_html say) texts
  texts_text first [] = refl
  texts_text first (text ∷ texts) = ap (λ rest. text_html say text ++ rest) (texts_text first texts)

  rest_text : (first : Bool) (row : InstanceRow)
      → pieces_html say axis first (servers_pieces row.instance.servers ++ (map instance_text row.instance.texts ++ instance_end ∷ []))
      ≡ (servers_html say row.instance.servers ++ (codes "</div>" ++ (codes "<div>")))
      ++ (flat_map (text_html say) row.instance.texts ++ (codes "</div></li>\n"))
  rest_text first row = grind (arith, pieces-append, servers_text, texts_text, append-nil)

  row_parts : (begin name middle div servers close last texts end : List ℕ)
      → (begin ++ name ++ middle ++ div) ++ ((servers ++ (close ++ last)) ++ (texts ++ end))
      ≡ begin ++ name ++ middle ++ (div ++ servers ++ close) ++ last ++ texts ++ end
  row_parts begin name middle div servers close last texts end = simp append_assoc

  row_text : (first : Bool) (row : InstanceRow) → pieces_html say axis first (instance_pieces row) ≡ live_row say axis row
  unfolding live_row
  row_text first row = simp (rest_text, row_parts)

  pub rows_html : (first : Bool) (rows : List InstanceRow)
      → pieces_html say axis first (flat_map instance_pieces rows) ≡ flat_map (live_row say axis) rows
  rows_html = each_html instance_pieces (live_row say axis) row_text

-- ---- the groups one after another

-- a group by the record of its first row
group-by_owner : (say : List ℕ → List ℕ) (axis : Axis) (opened : Bool) (lasts : List Latest) (given : GivenRow) (more : List GivenRow)
    → type_begin say opened (type_of given) ++ flat_map (live_row say axis) (filter_map (instance_row_in lasts) (given ∷ more)) ++ (codes "</ul></details>\n")
    ≡ live_group say axis opened lasts (given ∷ more)
unfolding live_group type_begin
group-by_owner say axis opened lasts given more = refl

pub group-at : {R : Type 0} (value : R → GivenRow) (say : List ℕ → List ℕ) (axis : Axis) (opened : Bool) (lasts : List Latest) (rs : List R)
    (first : R) (others : List R) (n : ℕ) → rs ≡ first ∷ others
    → type_begin say opened (type_of (value first)) ++ flat_map (live_row say axis) (filter_map (instance_row_in lasts)
    (map value (take (1 + n) rs))) ++ (codes "</ul></details>\n") ≡ live_group say axis opened lasts (map value (take (1 + n) rs))
group-at value say axis opened lasts rs first others n split = grind (arith, group-by_owner)

regroup : (old begin rows end : List ℕ) → ((old ++ begin) ++ rows) ++ end ≡ old ++ (begin ++ rows ++ end)
regroup old begin rows end = simp append_assoc

-- a group by the parts that are written of it
pub group_by_parts : (opened : Bool) (owner : List ℕ) (rows : List InstanceRow) (old begun walked : LiveSheet) (new : LiveSheet)
    → Adds old (type_begin isolated opened owner) begun → Grows begun (flat_map instance_pieces rows) walked → new.axis ≡ walked.axis
    → string_bytes new.text ≡ string_bytes walked.text ++ (codes "</ul></details>\n")
    → Adds old (type_begin isolated opened owner ++ flat_map (live_row isolated old.axis) rows ++ (codes "</ul></details>\n")) new
group_by_parts opened owner rows old begun walked new begin walk axis end = grind (arith, rows_html, regroup)

-- ---- the section

-- what the section begins with
abbrev live_begin : Axis → List ℕ
live_begin axis =
    codes "<h2 id=\"live\">What was live" ++ end_text axis ++ codes "</h2>\n<div class=\"g l\">\n"

-- the section by the parts that are written of it
pub live_by_parts : (axis : Axis) (opened : Bool) (lasts : List Latest) (given : List GivenRow) (old begun new : List ℕ)
    (first last : LiveSheet)
    → begun ≡ old ++ live_begin axis → string_bytes first.text ≡ begun → first.axis ≡ axis
    → Adds first (flat_map (live_group isolated first.axis opened lasts) (grouped type_of given)) last
    → new ≡ string_bytes last.text ++ codes "</div>\n"
    → new ≡ old ++ live_text isolated axis opened lasts given
live_by_parts axis opened lasts given old begun new first last begin moved same groups end = grind (arith, regroup)
