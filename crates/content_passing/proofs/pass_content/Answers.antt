-- `content_passing::pass_content` meets its contract: what the elements are says the shape of the kind, and so the bytes of the content.
use Prim.Native.Nat.{◌+◌, ◌≤◌}
use mathlib.Core.Path.{◌≡◌, subst}
use lib.ListN.{length}
use Rattle.binary.specs.Binary.{content_bytes}
use Rattle.number.proofs.Laws.{shape_of}
use Rattle.number.specs.Clauses.{shape_as}
use Rattle.number.specs.declared.Elements.{Elements}
use Rattle.table.specs.Shape.{Shape}
use Rattle.content_passing.proofs.pass_content.Goals as goal

pub pass_integers-requires : goal.pass_integers-requires
unfolding content_bytes
pass_integers-requires c =
    let fits : (e : Elements) → c.elements_of.result ≡ e → let a = c.args in
    (a.at + content_bytes (shape_as e) a.n + 8 ≤ length a.s.now) × (a.o + content_bytes (shape_as e) a.n + 8 ≤ length a.row.now) = λ _ told. (let a = c.args in
    subst (λ (k : Shape). (a.at + content_bytes k a.n + 8 ≤ length a.s.now) × (a.o + content_bytes k a.n + 8 ≤ length a.row.now)) (shape_of c.elements_of.ensures told)
    (c.requires.1, c.requires.2)) in
    let room = fits _ c.in-Whole.is in
    (c.requires.0, room.0, room.1)

pub pass_truths-requires : goal.pass_truths-requires
unfolding content_bytes
pass_truths-requires c =
    let fits : (e : Elements) → c.elements_of.result ≡ e → let a = c.args in
    (a.at + content_bytes (shape_as e) a.n + 8 ≤ length a.s.now) × (a.o + content_bytes (shape_as e) a.n + 8 ≤ length a.row.now) = λ _ told. (let a = c.args in
    subst (λ (k : Shape). (a.at + content_bytes k a.n + 8 ≤ length a.s.now) × (a.o + content_bytes k a.n + 8 ≤ length a.row.now)) (shape_of c.elements_of.ensures told)
    (c.requires.1, c.requires.2)) in
    fits _ c.in-Truths.is

pub pass_bits-requires : goal.pass_bits-requires
unfolding content_bytes
pass_bits-requires c =
    let fits : (e : Elements) → c.elements_of.result ≡ e → let a = c.args in
    (a.at + content_bytes (shape_as e) a.n + 8 ≤ length a.s.now) × (a.o + content_bytes (shape_as e) a.n + 8 ≤ length a.row.now) = λ _ told. (let a = c.args in
    subst (λ (k : Shape). (a.at + content_bytes k a.n + 8 ≤ length a.s.now) × (a.o + content_bytes k a.n + 8 ≤ length a.row.now)) (shape_of c.elements_of.ensures told)
    (c.requires.1, c.requires.2)) in
    let room = fits _ c.in-Bits.is in
    (c.requires.0, room.0, room.1)

pub pass_text-requires : goal.pass_text-requires
unfolding content_bytes
pass_text-requires c =
    let fits : (e : Elements) → c.elements_of.result ≡ e → let a = c.args in
    (a.at + content_bytes (shape_as e) a.n + 8 ≤ length a.s.now) × (a.o + content_bytes (shape_as e) a.n + 8 ≤ length a.row.now) = λ _ told. (let a = c.args in
    subst (λ (k : Shape). (a.at + content_bytes k a.n + 8 ≤ length a.s.now) × (a.o + content_bytes k a.n + 8 ≤ length a.row.now)) (shape_of c.elements_of.ensures told)
    (c.requires.1, c.requires.2)) in
    fits _ c.in-Text.is

pub returns-in-Truths : goal.returns-in-Truths
returns-in-Truths c =
    rw (shape_of c.elements_of.ensures c.in-Truths.is) c.pass_truths.ensures

pub returns-in-Bits : goal.returns-in-Bits
returns-in-Bits c =
    rw (shape_of c.elements_of.ensures c.in-Bits.is) c.pass_bits.ensures

pub returns-in-Text : goal.returns-in-Text
returns-in-Text c =
    rw (shape_of c.elements_of.ensures c.in-Text.is) c.pass_text.ensures

pub returns-in-Whole : goal.returns-in-Whole
returns-in-Whole c =
    rw (shape_of c.elements_of.ensures c.in-Whole.is) c.pass_integers.ensures
