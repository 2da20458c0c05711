-- `tabledata_writing::put_escaped` meets its contract, code by code: the escaped are keys of `match`, any other char stands for itself or is left out.
use Prim.Native.Nat.{ℕ}
use native.Mathlib.Omega.{arith}
use mathlib.Core.Bool.{true}
use mathlib.Core.List.{[], ◌∷◌}
use mathlib.Core.Path.{◌∙◌, ◌≡◌, ap, sym}
use lib.IntN.{pos}
use lib.ListN.{length}
use Rattle.table.specs.Bytes.{between}
use Rattle.tabledata.proofs.Laws.{text-lt}
use Rattle.table.proofs.Wrote.{wrote_as, wrote-long, wrote_none, wrote_one}
use Rattle.tabledata_writing.proofs.Writing.{char-itself, char-none, char_form}
use Rattle.tabledata.specs.TableData.{escaped, form_of, is_text}
use Rattle.tabledata_writing.proofs.put_escaped.Goals as goal

pub put_bytes-requires : goal.put_bytes-requires
unfolding form_of is_text between escaped
put_bytes-requires c = omega (arith, c.requires, ap (λ (n : ℕ). length (char_form (pos n))) c.in-38.is)

pub put_bytes-requires-in-60 : goal.put_bytes-requires-in-60
unfolding form_of is_text between escaped
put_bytes-requires-in-60 c = omega (arith, c.requires, ap (λ (n : ℕ). length (char_form (pos n))) c.in-60.is)

pub put_bytes-requires-in-62 : goal.put_bytes-requires-in-62
unfolding form_of is_text between escaped
put_bytes-requires-in-62 c = omega (arith, c.requires, ap (λ (n : ℕ). length (char_form (pos n))) c.in-62.is)

pub put_bytes-requires-in-13 : goal.put_bytes-requires-in-13
unfolding form_of is_text between escaped
put_bytes-requires-in-13 c = omega (arith, c.requires, ap (λ (n : ℕ). length (char_form (pos n))) c.in-13.is)

pub returns-then-not-is_text : goal.returns-then-not-is_text
returns-then-not-is_text c =
    let a = c.args in
    wrote_as (sym (char-none a.c (sym c.is_text.ensures ∙ c.if-not-is_text.true))) (wrote_none a.out.now a.at)

pub overflow_cast-out : goal.overflow_cast-out
overflow_cast-out c =
    let is-text : is_text c.args.c ≡ true = sym c.is_text.ensures ∙ c.if-not-is_text.false in
    omega (arith, text-lt c.args.c is-text)

pub bounds-out-at : goal.bounds-out-at
bounds-out-at c =
    let is-text : is_text c.args.c ≡ true = sym c.is_text.ensures ∙ c.if-not-is_text.false in
    let itself : char_form (pos c.args.c) ≡ c.args.c ∷ [] = (let r = c.in_default.in_default-own.rest in
    char-itself c.args.c is-text r.0.0.0.1 r.0.0.1 r.0.1 r.1) in
    omega (arith, c.requires, ap length itself)

pub shape_of-out-in-38 : goal.shape_of-out-in-38
shape_of-out-in-38 c = wrote-long c.put_bytes.ensures

pub returns-in-38 : goal.returns-in-38
unfolding form_of is_text between escaped
returns-in-38 c = wrote_as (sym (ap (λ (n : ℕ). char_form (pos n)) c.in-38.is)) c.put_bytes.ensures

pub shape_of-out-in-60 : goal.shape_of-out-in-60
shape_of-out-in-60 c = wrote-long c.put_bytes-in-60.ensures

pub returns-in-60 : goal.returns-in-60
unfolding form_of is_text between escaped
returns-in-60 c = wrote_as (sym (ap (λ (n : ℕ). char_form (pos n)) c.in-60.is)) c.put_bytes-in-60.ensures

pub shape_of-out-in-62 : goal.shape_of-out-in-62
shape_of-out-in-62 c = wrote-long c.put_bytes-in-62.ensures

pub returns-in-62 : goal.returns-in-62
unfolding form_of is_text between escaped
returns-in-62 c = wrote_as (sym (ap (λ (n : ℕ). char_form (pos n)) c.in-62.is)) c.put_bytes-in-62.ensures

pub shape_of-out-in-13 : goal.shape_of-out-in-13
shape_of-out-in-13 c = wrote-long c.put_bytes-in-13.ensures

pub returns-in-13 : goal.returns-in-13
unfolding form_of is_text between escaped
returns-in-13 c = wrote_as (sym (ap (λ (n : ℕ). char_form (pos n)) c.in-13.is)) c.put_bytes-in-13.ensures

pub returns-else-not-is_text : goal.returns-else-not-is_text
returns-else-not-is_text c =
    let is-text : is_text c.args.c ≡ true = sym c.is_text.ensures ∙ c.if-not-is_text.false in
    let itself : char_form (pos c.args.c) ≡ c.args.c ∷ [] = (let r = c.in_default.in_default-own.rest in
    char-itself c.args.c is-text r.0.0.0.1 r.0.0.1 r.0.1 r.1) in
    let a = c.args in
    wrote_as (sym itself) (wrote_one a.out.now a.at a.c)
