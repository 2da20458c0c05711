-- An index and a row fetched by it, as calls of the face: the theorems of the definitions, carried to the numbers and the buffers.
use Rattle.std.specs.Prelude.{Some}
use Prim.Native.Nat.{ℕ}
use mathlib.Core.List.{List}
use mathlib.Core.Path.{◌≡◌, subst, subst⁻¹}
use lib.ListN.{get_or}
use Rattle.demands.proofs.Indexed.{index-ended, stops-as-converted}
use Rattle.demands.specs.OneRow.{FetchEnded, FetchesAlike}
use Rattle.fields.specs.Fields.{declare}
use Rattle.grammar.proofs.Fetched.{fetch-ended, fetches-alike}
use Rattle.index.specs.Fetch.{fetch}
use Rattle.index.specs.Index.{index}
use Rattle.promises.proofs.Laws.{Faces, call-is}
use Rattle.row_promises.specs.OneRow.{FetchedRow, Indexed, NotBinary, OfBinary, SameFetched}
use Rattle.promises.specs.Promises.{call_of}
use Rattle.sailmortar.proofs.Numbers.{of-binary, of_none}
use Rattle.sailmortar.specs.Face.{Faced, binary_of, faced, fetch_face, index_face, no_such_kind}
use Rattle.table.specs.Outcome.{Call}
use Rattle.table.specs.declared.Rows.{Rows}

-- ---- the index

module _ (decls : List ℕ) (from : ℕ) (input entry : List ℕ) {numbers exit : List ℕ} (h : Faces (index_face decls from input entry) numbers exit) where
  pub is-index : (source : Rows) → binary_of from ≡ Some source → call_of numbers exit ≡ index decls source input entry
  unfolding index_face
  is-index source e =
      call-is _
      (subst (λ (x : Faced). Faces x numbers exit) (of-binary from (no_such_kind 4 entry) (λ kind. faced (index decls kind input entry)) source e) h)

  pub index-unnamed : NotBinary from entry numbers exit
  unfolding index_face no_such_kind
  index-unnamed e =
      let n = subst (λ (x : Faced). Faces x numbers exit) (of_none from (no_such_kind 4 entry) (λ kind. faced (index decls kind input entry)) e) h in
      (n.numbers-are, n.buffer-is)

  pub indexed : OfBinary from (Indexed decls input entry (call_of numbers exit))
  indexed source e =
      subst⁻¹ (λ (c : Call). Indexed decls input entry c source) (is-index source e)
      (record { ended = index-ended decls source input entry; stops = stops-as-converted decls source input entry })

-- ---- one row

module _ (decls : List ℕ) (from : ℕ) (input entries : List ℕ) (rows row : ℕ) (out : List ℕ) {numbers exit : List ℕ}
    (h : Faces (fetch_face decls from input entries rows row out) numbers exit) where
  pub is-fetch : (source : Rows) → binary_of from ≡ Some source → call_of numbers exit ≡ fetch decls source input entries rows row out
  unfolding fetch_face
  is-fetch source e =
      call-is _
      (subst (λ (x : Faced). Faces x numbers exit) (of-binary from (no_such_kind 4 out) (λ kind. faced (fetch decls kind input entries rows row out)) source e) h)

  pub fetch-unnamed : NotBinary from out numbers exit
  unfolding fetch_face no_such_kind
  fetch-unnamed e =
      let n = subst (λ (x : Faced). Faces x numbers exit) (of_none from (no_such_kind 4 out) (λ kind. faced (fetch decls kind input entries rows row out)) e) h in
      (n.numbers-are, n.buffer-is)

-- by the index and the count that were answered
pub fetched-row : (decls : List ℕ) (from : ℕ) (input entry : List ℕ) (row : ℕ) (out : List ℕ) {numbers exit told line : List ℕ}
    → Faces (index_face decls from input entry) numbers exit → Faces (fetch_face decls from input exit (get_or numbers 3 0) row out) told line
    → OfBinary from (FetchedRow decls input (call_of numbers exit).answer.rows row out (call_of told line))
unfolding call_of
fetched-row decls from input entry row out {numbers} {exit} {told} {line} h k source e =
    subst⁻¹ (λ (d : Call). FetchEnded (declare decls) decls source input (call_of numbers exit).answer.rows row out d) (is-fetch decls from input exit (get_or numbers 3 0) row out k source e)
    (fetch-ended decls source input entry row out (call_of numbers exit) (indexed decls from input entry h source e).ended)

pub same-fetched : (decls : List ℕ) (from rows row : ℕ) (input index out other others room : List ℕ) {numbers exit told line : List ℕ}
    → Faces (fetch_face decls from input index rows row out) numbers exit → Faces (fetch_face decls from other others rows row room) told line
    → OfBinary from (SameFetched decls input other index others row out room (call_of numbers exit) (call_of told line))
same-fetched decls from rows row input index out other others room {numbers} {exit} {told} {line} h k source e =
    subst⁻¹ (λ (c : Call). FetchesAlike decls source input other index others row out room c (call_of told line)) (is-fetch decls from input index rows row out h source e)
    (subst⁻¹ (FetchesAlike decls source input other index others row out room (fetch decls source input index rows row out)) (is-fetch decls from other others rows row room k source e)
    (fetches-alike decls source input other index others rows row out room))
