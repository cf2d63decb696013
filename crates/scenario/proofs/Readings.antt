-- What is read is spelled so, and what is spelled so is read.
use Rattle.std.proofs.Common.{◌≡◌, ℕ, zero, suc, ◌≤◌, cond, List, [], ◌∷◌, ◌++◌, length, map, Option, Some, None, refl, inl, inr, ap, ◌∙◌, subst, arith}
use Rattle.std.specs.Prelude.{◌==◌, codes, IfSome}
use Rattle.std.specs.List.{AllByRecursion}
use Rattle.std.specs.Fmt.{decimal}
use Rattle.std.specs.Str.{bytes_eq}
use Rattle.std.proofs.lemmas.Bool.{eqb-true, eqb-false, ne_eqb}
use Rattle.std.proofs.lemmas.Option.{none-some, cond_some, same_Some}
use Rattle.evac_model.specs.declared.names.Kind.{Kind}
use Rattle.evac_model.specs.declared.names.Kind.TheVariants.{Movable, Unmovable}
use Rattle.evac_model.specs.declared.call.Call.{Call}
use Rattle.evac_model.specs.declared.call.Call.TheVariants as calls
use Rattle.evac_model.specs.declared.host.HostCommand.{HostCommand}
use Rattle.evac_model.specs.declared.host.HostCommand.TheVariants as commands
use Rattle.evac_model.specs.declared.scenario.StartPage.{StartPage}
use Rattle.evac_model.specs.declared.scenario.Drawn.{Drawn}
use Rattle.evac_model.specs.Geometry.{Sizes}
use Rattle.evac_model.specs.Spelling.{kind_word, online_word, call_words, turn_word, count_words, command_words}
use Rattle.evac_model.specs.ScenarioLines.{Line, NamedTurn, MachineLine, OnlineLine, PageLine, FailLine, TurnsLine, DrawLine, CallLine, CommandLine, words_of, IsNumber, HasNumbers, HasTurnNumbers, HasBytes, Fits}
use Rattle.scenario.specs.Numbers.{number_of}
use Rattle.scenario.specs.Reading.{◌>>=◌, number_at, kind_of, kind_at, online_of_word, online_at, ended, values_of, machine_of, online_kind_of, page_of, fail_of, draw_of, turns_of, turns_line_of, count_at, alloc_of, read_of, write_of, add_of, named_call, call_of, call_line_of, hex_bytes, request_of, command_of, plain_line_of, line_of}
use Rattle.scenario.proofs.Numerals.{number_is, number_again}
use Rattle.scenario.proofs.Names.{same_text}
use Rattle.scenario.proofs.HexWords.{hex_is, hex_again}
use Rattle.scenario.proofs.Steps.{bind_some, chosen, ended_is}
use Rattle.scenario.proofs.TurnWords.{turns_read, turns_again, number_is_no_name}

number_read : (ws : List (List ℕ)) (x : ℕ × List (List ℕ)) → number_at ws ≡ Some x → (ws ≡ decimal x.0 ∷ x.1) × IsNumber x.0
number_read [] x e = absurd (none-some x e)
number_read (word ∷ rest) x e =
    let n = bind_some (number_of word) (λ n. Some (n, rest)) x e in
    let is = number_is word n.0 n.1 in
    let made : (n.0, rest) ≡ x = same_Some (n.0, rest) x n.2 in
    subst (λ (y : ℕ × List (List ℕ)). (word ∷ rest ≡ decimal y.0 ∷ y.1) × IsNumber y.0) made (ap (λ (w : List ℕ). w ∷ rest) is.1, is.0)

number_at_again : (n : ℕ) (rest : List (List ℕ)) → IsNumber n → number_at (decimal n ∷ rest) ≡ Some (n, rest)
number_at_again n rest lt = rw (number_again n lt) refl

kind_is : (word : List ℕ) (kind : Kind) → kind_of word ≡ Some kind → word ≡ kind_word kind
kind_is word kind e = elim (chosen (bytes_eq word (codes "movable")) (Some Movable) (cond (bytes_eq word (codes "unmovable")) (Some Unmovable) None) (Some kind) e) [
  | inl here ↦ same_text word (codes "movable") here.0 ∙ ap kind_word (same_Some Movable kind here.1)
  | inr there ↦
      let b = cond_some (bytes_eq word (codes "unmovable")) Unmovable kind there.1 in
      same_text word (codes "unmovable") b.0 ∙ ap kind_word b.1
]

kind_read : (ws : List (List ℕ)) (x : Kind × List (List ℕ)) → kind_at ws ≡ Some x → ws ≡ kind_word x.0 ∷ x.1
kind_read [] x e = absurd (none-some x e)
kind_read (word ∷ rest) x e =
    let k = bind_some (kind_of word) (λ kind. Some (kind, rest)) x e in
    let made : (k.0, rest) ≡ x = same_Some (k.0, rest) x k.2 in
    subst (λ (y : Kind × List (List ℕ)). word ∷ rest ≡ kind_word y.0 ∷ y.1) made (ap (λ (w : List ℕ). w ∷ rest) (kind_is word k.0 k.1))

kind_again : (kind : Kind) (rest : List (List ℕ)) → kind_at (kind_word kind ∷ rest) ≡ Some (kind, rest)
kind_again Movable rest = refl
kind_again Unmovable rest = refl

online_is : (word : List ℕ) (kind : Kind) → online_of_word word ≡ Some kind → word ≡ online_word kind
online_is word kind e = elim (chosen (bytes_eq word (codes "movable")) (Some Movable) (cond (bytes_eq word (codes "kernel")) (Some Unmovable) None) (Some kind) e) [
  | inl here ↦ same_text word (codes "movable") here.0 ∙ ap online_word (same_Some Movable kind here.1)
  | inr there ↦
      let b = cond_some (bytes_eq word (codes "kernel")) Unmovable kind there.1 in
      same_text word (codes "kernel") b.0 ∙ ap online_word b.1
]

online_at_read : (ws : List (List ℕ)) (x : Kind × List (List ℕ)) → online_at ws ≡ Some x → ws ≡ online_word x.0 ∷ x.1
online_at_read [] x e = absurd (none-some x e)
online_at_read (word ∷ rest) x e =
    let k = bind_some (online_of_word word) (λ kind. Some (kind, rest)) x e in
    let made : (k.0, rest) ≡ x = same_Some (k.0, rest) x k.2 in
    subst (λ (y : Kind × List (List ℕ)). word ∷ rest ≡ online_word y.0 ∷ y.1) made (ap (λ (w : List ℕ). w ∷ rest) (online_is word k.0 k.1))

-- ---- values

record AreValues (ws : List (List ℕ)) (values : List ℕ) (room : ℕ) : Type 0 where
  spelled : ws ≡ map decimal values
  fit : AllByRecursion IsNumber values
  few : length values ≤ room

values_read : (room : ℕ) (ws : List (List ℕ)) (values : List ℕ) → values_of room ws ≡ Some values → AreValues ws values room
unfolding values_of
values_read room [] values e = subst (λ (vs : List ℕ). AreValues [] vs room) (same_Some [] values e) (record { spelled = refl; fit = tt; few = omega arith })
values_read zero (word ∷ rest) values e = absurd (none-some values e)
values_read (suc room) (word ∷ rest) values e =
    let n = bind_some (number_of word) (λ n. values_of room rest >>= λ more. Some (n ∷ more)) values e in
    let more = bind_some (values_of room rest) (λ more. Some (n.0 ∷ more)) values n.2 in
    let is = number_is word n.0 n.1 in
    let others = values_read room rest more.0 more.1 in
    let spelled : word ∷ rest ≡ map decimal (n.0 ∷ more.0) = rw (← is.1, ← others.spelled) refl in
    let made : n.0 ∷ more.0 ≡ values = same_Some (n.0 ∷ more.0) values more.2 in
    subst (λ (vs : List ℕ). AreValues (word ∷ rest) vs (suc room)) made (record { spelled = spelled; fit = (is.0, others.fit); few = omega (arith, others.few) })

values_again : (values : List ℕ) (room : ℕ) → AllByRecursion IsNumber values → length values ≤ room → values_of room (map decimal values) ≡ Some values
unfolding values_of
values_again [] room fit few = refl
values_again (n ∷ more) zero fit few = absurd (omega arith)
values_again (n ∷ more) (suc room) fit few = rw (number_again n fit.0, values_again more room fit.1 (omega arith)) refl

-- ---- the lines

followed : {ws rest others : List (List ℕ)} {word : List ℕ} → ws ≡ word ∷ rest → rest ≡ others → ws ≡ word ∷ others
followed {word} p q = p ∙ ap (λ (t : List (List ℕ)). word ∷ t) q

abbrev Spelled : List (List ℕ) → Line → Type 0
Spelled ws line = (ws ≡ words_of line) × Fits line

machine_read : (ws : List (List ℕ)) (s : Sizes) → machine_of ws ≡ Some s → Spelled (codes "machine" ∷ ws) (MachineLine s)
unfolding machine_of
machine_read ws s e =
    let a = bind_some (number_at ws) _ s e in
    let b = bind_some (number_at a.0.1) _ s a.2 in
    let c = bind_some (number_at b.0.1) _ s b.2 in
    let d = bind_some (number_at c.0.1) _ s c.2 in
    let f = bind_some (number_at d.0.1) _ s d.2 in
    let g = bind_some (number_at f.0.1) _ s f.2 in
    let made = ended_is (record { cells = a.0.0; block = b.0.0; boot = c.0.0; managed = d.0.0; plugged = f.0.0; pages = g.0.0 }) s g.0.1 g.2 in
    let ra = number_read ws a.0 a.1 in
    let rb = number_read a.0.1 b.0 b.1 in
    let rc = number_read b.0.1 c.0 c.1 in
    let rd = number_read c.0.1 d.0 d.1 in
    let rf = number_read d.0.1 f.0 f.1 in
    let rg = number_read f.0.1 g.0 g.1 in
    let whole : codes "machine" ∷ ws ≡ codes "machine" ∷ map decimal (a.0.0 ∷ b.0.0 ∷ c.0.0 ∷ d.0.0 ∷ f.0.0 ∷ g.0.0 ∷ []) = ap (λ (t : List (List ℕ)). codes "machine" ∷ t) (followed ra.0 (followed rb.0 (followed rc.0 (followed rd.0 (followed rf.0 (followed rg.0 made.0)))))) in
    subst (λ (t : Sizes). Spelled (codes "machine" ∷ ws) (MachineLine t)) made.1 (whole, (ra.1, (rb.1, (rc.1, (rd.1, (rf.1, (rg.1, tt)))))))

online_read : (ws : List (List ℕ)) (kind : Kind) → online_kind_of ws ≡ Some kind → Spelled (codes "online" ∷ ws) (OnlineLine kind)
unfolding online_kind_of
online_read ws kind e =
    let a = bind_some (online_at ws) _ kind e in
    let made = ended_is a.0.0 kind a.0.1 a.2 in
    let ra = online_at_read ws a.0 a.1 in
    let whole : codes "online" ∷ ws ≡ codes "online" ∷ online_word a.0.0 ∷ [] = ap (λ (t : List (List ℕ)). codes "online" ∷ t) (followed ra made.0) in
    subst (λ (k : Kind). Spelled (codes "online" ∷ ws) (OnlineLine k)) made.1 (whole, tt)

page_read : (ws : List (List ℕ)) (p : StartPage) → page_of ws ≡ Some p → Spelled (codes "page" ∷ ws) (PageLine p)
unfolding page_of
page_read ws p e =
    let a = bind_some (number_at ws) _ p e in
    let b = bind_some (kind_at a.0.1) _ p a.2 in
    let c = bind_some (number_at b.0.1) _ p b.2 in
    let made = ended_is (record { page = record { 0 = a.0.0 }; kind = b.0.0; frame = record { 0 = c.0.0 } }) p c.0.1 c.2 in
    let ra = number_read ws a.0 a.1 in
    let rb = kind_read a.0.1 b.0 b.1 in
    let rc = number_read b.0.1 c.0 c.1 in
    let whole : codes "page" ∷ ws ≡ codes "page" ∷ decimal a.0.0 ∷ kind_word b.0.0 ∷ decimal c.0.0 ∷ [] = ap (λ (t : List (List ℕ)). codes "page" ∷ t) (followed ra.0 (followed rb (followed rc.0 made.0))) in
    subst (λ (q : StartPage). Spelled (codes "page" ∷ ws) (PageLine q)) made.1 (whole, (ra.1, rc.1))

fail_read : (ws : List (List ℕ)) (call : ℕ) → fail_of ws ≡ Some call → Spelled (codes "fail" ∷ ws) (FailLine call)
unfolding fail_of
fail_read ws call e =
    let a = bind_some (number_at ws) _ call e in
    let made = ended_is a.0.0 call a.0.1 a.2 in
    let ra = number_read ws a.0 a.1 in
    let whole : codes "fail" ∷ ws ≡ codes "fail" ∷ decimal a.0.0 ∷ [] = ap (λ (t : List (List ℕ)). codes "fail" ∷ t) (followed ra.0 made.0) in
    subst (λ (n : ℕ). Spelled (codes "fail" ∷ ws) (FailLine n)) made.1 (whole, ra.1)

draw_read : (ws : List (List ℕ)) (d : Drawn) → draw_of ws ≡ Some d → Spelled (codes "draw" ∷ ws) (DrawLine d)
unfolding draw_of
draw_read ws d e =
    let a = bind_some (number_at ws) _ d e in
    let b = bind_some (number_at a.0.1) _ d a.2 in
    let made = ended_is (record { number = a.0.0; count = b.0.0 }) d b.0.1 b.2 in
    let ra = number_read ws a.0 a.1 in
    let rb = number_read a.0.1 b.0 b.1 in
    let whole : codes "draw" ∷ ws ≡ codes "draw" ∷ decimal a.0.0 ∷ decimal b.0.0 ∷ [] = ap (λ (t : List (List ℕ)). codes "draw" ∷ t) (followed ra.0 (followed rb.0 made.0)) in
    subst (λ (t : Drawn). Spelled (codes "draw" ∷ ws) (DrawLine t)) made.1 (whole, (ra.1, rb.1))

turns_line_read : (ws : List (List ℕ)) (line : Line) → turns_line_of ws ≡ Some line → Spelled (codes "turns" ∷ ws) line
unfolding turns_line_of
turns_line_read ws line e =
    let ts = bind_some (turns_of ws) _ line e in
    let r = turns_read ws ts.0 ts.1 in
    elim (chosen (length ts.0 == 0) None (Some (TurnsLine ts.0)) (Some line) ts.2) [
      | inl none ↦ absurd (none-some line none.1)
      | inr some ↦
          let nonzero = eqb-false (length ts.0) 0 some.0 in
          let at_least : 1 ≤ length ts.0 = omega (arith, nonzero) in
          subst (λ (l : Line). Spelled (codes "turns" ∷ ws) l) (same_Some (TurnsLine ts.0) line some.1) (ap (λ (t : List (List ℕ)). codes "turns" ∷ t) r.0, (at_least, r.1))
    ]

-- the words of a call on a page, where `ws` are those behind the page
abbrev Named : List ℕ → ℕ → List (List ℕ) → Call → Type 0
Named name page ws call = (name ∷ decimal page ∷ ws ≡ call_words page call) × HasNumbers call

behind : (name : List ℕ) (page : ℕ) {ws others : List (List ℕ)} → ws ≡ others → name ∷ decimal page ∷ ws ≡ name ∷ decimal page ∷ others
behind name page e = ap (λ (t : List (List ℕ)). name ∷ decimal page ∷ t) e

alloc_read : (page : ℕ) (ws : List (List ℕ)) (call : Call) → alloc_of ws ≡ Some call → Named (codes "alloc") page ws call
unfolding alloc_of
alloc_read page ws call e =
    let a = bind_some (kind_at ws) _ call e in
    let made = ended_is (calls.Alloc a.0.0) call a.0.1 a.2 in
    let ra = kind_read ws a.0 a.1 in
    subst (λ (c : Call). Named (codes "alloc") page ws c) made.1 (behind (codes "alloc") page (followed ra made.0), tt)

free_read : (page : ℕ) (ws : List (List ℕ)) (call : Call) → ended calls.Free ws ≡ Some call → Named (codes "free") page ws call
free_read page ws call e =
    let made = ended_is calls.Free call ws e in
    subst (λ (c : Call). Named (codes "free") page ws c) made.1 (behind (codes "free") page made.0, tt)

read_read : (page : ℕ) (ws : List (List ℕ)) (call : Call) → read_of ws ≡ Some call → Named (codes "read") page ws call
unfolding read_of
read_read page ws call e =
    let a = bind_some (number_at ws) _ call e in
    let b = bind_some (number_at a.0.1) _ call a.2 in
    let made = ended_is (calls.Read a.0.0 b.0.0) call b.0.1 b.2 in
    let ra = number_read ws a.0 a.1 in
    let rb = number_read a.0.1 b.0 b.1 in
    subst (λ (c : Call). Named (codes "read") page ws c) made.1 (behind (codes "read") page (followed ra.0 (followed rb.0 made.0)), (ra.1, rb.1))

write_read : (page : ℕ) (ws : List (List ℕ)) (call : Call) → write_of ws ≡ Some call → Named (codes "write") page ws call
unfolding write_of
write_read page ws call e =
    let a = bind_some (number_at ws) _ call e in
    let v = bind_some (values_of 8 a.0.1) _ call a.2 in
    let ra = number_read ws a.0 a.1 in
    let rv = values_read 8 a.0.1 v.0 v.1 in
    elim (chosen (length v.0 == 0) None (Some (calls.Write a.0.0 v.0)) (Some call) v.2) [
      | inl none ↦ absurd (none-some call none.1)
      | inr some ↦
          let nonzero = eqb-false (length v.0) 0 some.0 in
          let at_least : 1 ≤ length v.0 = omega (arith, nonzero) in
          subst (λ (c : Call). Named (codes "write") page ws c) (same_Some (calls.Write a.0.0 v.0) call some.1) (behind (codes "write") page (followed ra.0 rv.spelled), (ra.1, at_least, rv.few, rv.fit))
    ]

add_read : (page : ℕ) (ws : List (List ℕ)) (call : Call) → add_of ws ≡ Some call → Named (codes "add") page ws call
unfolding add_of
add_read page ws call e =
    let a = bind_some (number_at ws) _ call e in
    let b = bind_some (number_at a.0.1) _ call a.2 in
    let made = ended_is (calls.Add a.0.0 b.0.0) call b.0.1 b.2 in
    let ra = number_read ws a.0 a.1 in
    let rb = number_read a.0.1 b.0 b.1 in
    subst (λ (c : Call). Named (codes "add") page ws c) made.1 (behind (codes "add") page (followed ra.0 (followed rb.0 made.0)), (ra.1, rb.1))

pin_read : (page : ℕ) (ws : List (List ℕ)) (call : Call) → ended calls.Pin ws ≡ Some call → Named (codes "pin") page ws call
pin_read page ws call e =
    let made = ended_is calls.Pin call ws e in
    subst (λ (c : Call). Named (codes "pin") page ws c) made.1 (behind (codes "pin") page made.0, tt)

unpin_read : (page : ℕ) (ws : List (List ℕ)) (call : Call) → ended calls.Unpin ws ≡ Some call → Named (codes "unpin") page ws call
unpin_read page ws call e =
    let made = ended_is calls.Unpin call ws e in
    subst (λ (c : Call). Named (codes "unpin") page ws c) made.1 (behind (codes "unpin") page made.0, tt)

named_read : (page : ℕ) (name : List ℕ) (ws : List (List ℕ)) (call : Call) → named_call name ws ≡ Some call → Named name page ws call
unfolding named_call
named_read page name ws call e =
    let last = cond (bytes_eq name (codes "unpin")) (ended calls.Unpin ws) None in
    let pins = cond (bytes_eq name (codes "pin")) (ended calls.Pin ws) last in
    let adds = cond (bytes_eq name (codes "add")) (add_of ws) pins in
    let writes = cond (bytes_eq name (codes "write")) (write_of ws) adds in
    let reads = cond (bytes_eq name (codes "read")) (read_of ws) writes in
    let frees = cond (bytes_eq name (codes "free")) (ended calls.Free ws) reads in
    elim (chosen (bytes_eq name (codes "alloc")) (alloc_of ws) frees (Some call) e) [
      | inl h ↦ rw (same_text name (codes "alloc") h.0) (alloc_read page ws call h.1)
      | inr h ↦ elim (chosen (bytes_eq name (codes "free")) (ended calls.Free ws) reads (Some call) h.1) [
        | inl h ↦ rw (same_text name (codes "free") h.0) (free_read page ws call h.1)
        | inr h ↦ elim (chosen (bytes_eq name (codes "read")) (read_of ws) writes (Some call) h.1) [
          | inl h ↦ rw (same_text name (codes "read") h.0) (read_read page ws call h.1)
          | inr h ↦ elim (chosen (bytes_eq name (codes "write")) (write_of ws) adds (Some call) h.1) [
            | inl h ↦ rw (same_text name (codes "write") h.0) (write_read page ws call h.1)
            | inr h ↦ elim (chosen (bytes_eq name (codes "add")) (add_of ws) pins (Some call) h.1) [
              | inl h ↦ rw (same_text name (codes "add") h.0) (add_read page ws call h.1)
              | inr h ↦ elim (chosen (bytes_eq name (codes "pin")) (ended calls.Pin ws) last (Some call) h.1) [
                | inl h ↦ rw (same_text name (codes "pin") h.0) (pin_read page ws call h.1)
                | inr h ↦ elim (chosen (bytes_eq name (codes "unpin")) (ended calls.Unpin ws) None (Some call) h.1) [
                  | inl h ↦ rw (same_text name (codes "unpin") h.0) (unpin_read page ws call h.1)
                  | inr h ↦ absurd (none-some call h.1)
                ]
              ]
            ]
          ]
        ]
      ]
    ]

-- the words are those of a call on a page
abbrev Called : List (List ℕ) → ℕ × Call → Type 0
Called ws x = (ws ≡ call_words x.0 x.1) × IsNumber x.0 × HasNumbers x.1

call_read : (ws : List (List ℕ)) (x : ℕ × Call) → call_of ws ≡ Some x → Called ws x
unfolding call_of
call_read [] x e = absurd (none-some x e)
call_read (name ∷ rest) x e =
    let a = bind_some (number_at rest) _ x e in
    let c = bind_some (named_call name a.0.1) _ x a.2 in
    let ra = number_read rest a.0 a.1 in
    let named = named_read a.0.0 name a.0.1 c.0 c.1 in
    let whole : name ∷ rest ≡ call_words a.0.0 c.0 = ap (λ (t : List (List ℕ)). name ∷ t) ra.0 ∙ named.0 in
    subst (λ (y : ℕ × Call). Called (name ∷ rest) y) (same_Some (a.0.0, c.0) x c.2) (whole, ra.1, named.1)

-- the words are a count, where it is written, and others
abbrev Counted : List (List ℕ) → Option ℕ × List (List ℕ) → Type 0
Counted ws x = (ws ≡ count_words x.0 ++ x.1) × IfSome x.0 IsNumber

count_read : (ws : List (List ℕ)) (x : Option ℕ × List (List ℕ)) → count_at ws ≡ Some x → Counted ws x
count_read [] x e = subst (λ (y : Option ℕ × List (List ℕ)). Counted [] y) (same_Some (None, []) x e) (refl, tt)
count_read ([] ∷ rest) x e = subst (λ (y : Option ℕ × List (List ℕ)). Counted ([] ∷ rest) y) (same_Some (None, [] ∷ rest) x e) (refl, tt)
count_read ((b ∷ bs) ∷ rest) x e = elim (chosen (b == 120) (number_of bs >>= λ n. Some (Some n, rest)) (Some (None, (b ∷ bs) ∷ rest)) (Some x) e) [
  | inl h ↦
      let n = bind_some (number_of bs) (λ n. Some (Some n, rest)) x h.1 in
      let is = number_is bs n.0 n.1 in
      let whole : (b ∷ bs) ∷ rest ≡ (codes "x" ++ decimal n.0) ∷ rest = ap (λ (c : ℕ). (c ∷ bs) ∷ rest) (eqb-true b 120 h.0) ∙ ap (λ (d : List ℕ). (120 ∷ d) ∷ rest) is.1 in
      subst (λ (y : Option ℕ × List (List ℕ)). Counted ((b ∷ bs) ∷ rest) y) (same_Some (Some n.0, rest) x n.2) (whole, is.0)
  | inr h ↦ subst (λ (y : Option ℕ × List (List ℕ)). Counted ((b ∷ bs) ∷ rest) y) (same_Some (None, (b ∷ bs) ∷ rest) x h.1) (refl, tt)
]

call_line_read : (owner : ℕ) (ws : List (List ℕ)) (line : Line) → IsNumber owner → call_line_of owner ws ≡ Some line → Spelled (decimal owner ∷ ws) line
unfolding call_line_of
call_line_read owner ws line lt e =
    let k = bind_some (count_at ws) _ line e in
    let c = bind_some (call_of k.0.1) _ line k.2 in
    let rk = count_read ws k.0 k.1 in
    let rc = call_read k.0.1 c.0 c.1 in
    let whole : decimal owner ∷ ws ≡ decimal owner ∷ count_words k.0.0 ++ call_words c.0.0 c.0.1 = ap (λ (t : List (List ℕ)). decimal owner ∷ t) (rk.0 ∙ ap (λ (t : List (List ℕ)). count_words k.0.0 ++ t) rc.0) in
    subst (λ (l : Line). Spelled (decimal owner ∷ ws) l) (same_Some (CallLine owner k.0.0 c.0.0 c.0.1) line c.2) (whole, (lt, rk.1, rc.1, rc.2))

-- the words are those of a command
abbrev Commanded : List (List ℕ) → HostCommand → Type 0
Commanded ws c = (ws ≡ command_words c) × HasBytes c

request_read : (ws : List (List ℕ)) (c : HostCommand) → request_of ws ≡ Some c → Commanded (codes "request" ∷ ws) c
unfolding request_of
request_read [] c e = absurd (none-some c e)
request_read (word ∷ rest) c e =
    let b = bind_some (hex_bytes word) _ c e in
    let is = hex_is word b.0 b.1 in
    elim (chosen (length b.0 == 0) None (ended (commands.Request b.0) rest) (Some c) b.2) [
      | inl none ↦ absurd (none-some c none.1)
      | inr some ↦
          let made = ended_is (commands.Request b.0) c rest some.1 in
          let nonzero = eqb-false (length b.0) 0 some.0 in
          let at_least : 1 ≤ length b.0 = omega (arith, nonzero) in
          let whole : codes "request" ∷ word ∷ rest ≡ command_words (commands.Request b.0) = rw (← is.spelled, made.0) refl in
          subst (λ (d : HostCommand). Commanded (codes "request" ∷ word ∷ rest) d) made.1 (whole, (at_least, is.few, is.fit))
    ]

command_read : (ws : List (List ℕ)) (c : HostCommand) → command_of ws ≡ Some c → Commanded ws c
unfolding command_of
command_read [] c e = absurd (none-some c e)
command_read (name ∷ rest) c e =
    let configs = cond (bytes_eq name (codes "config")) (ended commands.Config rest) None in
    elim (chosen (bytes_eq name (codes "request")) (request_of rest) configs (Some c) e) [
      | inl h ↦ rw (same_text name (codes "request") h.0) (request_read rest c h.1)
      | inr h ↦ elim (chosen (bytes_eq name (codes "config")) (ended commands.Config rest) None (Some c) h.1) [
        | inl h ↦
            let made = ended_is commands.Config c rest h.1 in
            let whole : name ∷ rest ≡ codes "config" ∷ [] = rw (same_text name (codes "config") h.0, made.0) refl in
            subst (λ (d : HostCommand). Commanded (name ∷ rest) d) made.1 (whole, tt)
        | inr h ↦ absurd (none-some c h.1)
      ]
    ]

plain_line_read : (word : List ℕ) (rest : List (List ℕ)) (line : Line) → plain_line_of word rest ≡ Some line → Spelled (word ∷ rest) line
unfolding plain_line_of
plain_line_read word rest line e =
    let owners = number_of word >>= λ owner. call_line_of owner rest in
    let hosts = cond (bytes_eq word (codes "host")) (command_of rest >>= λ command. Some (CommandLine command)) owners in
    let draws = cond (bytes_eq word (codes "draw")) (draw_of rest >>= λ draw. Some (DrawLine draw)) hosts in
    let fails = cond (bytes_eq word (codes "fail")) (fail_of rest >>= λ call. Some (FailLine call)) draws in
    let pages = cond (bytes_eq word (codes "page")) (page_of rest >>= λ page. Some (PageLine page)) fails in
    let onlines = cond (bytes_eq word (codes "online")) (online_kind_of rest >>= λ kind. Some (OnlineLine kind)) pages in
    elim (chosen (bytes_eq word (codes "machine")) (machine_of rest >>= λ sizes. Some (MachineLine sizes)) onlines (Some line) e) [
      | inl h ↦
          let s = bind_some (machine_of rest) (λ sizes. Some (MachineLine sizes)) line h.1 in
          rw (same_text word (codes "machine") h.0) (subst (λ (l : Line). Spelled (codes "machine" ∷ rest) l) (same_Some (MachineLine s.0) line s.2) (machine_read rest s.0 s.1))
      | inr h ↦ elim (chosen (bytes_eq word (codes "online")) (online_kind_of rest >>= λ kind. Some (OnlineLine kind)) pages (Some line) h.1) [
        | inl h ↦
            let k = bind_some (online_kind_of rest) (λ kind. Some (OnlineLine kind)) line h.1 in
            rw (same_text word (codes "online") h.0) (subst (λ (l : Line). Spelled (codes "online" ∷ rest) l) (same_Some (OnlineLine k.0) line k.2) (online_read rest k.0 k.1))
        | inr h ↦ elim (chosen (bytes_eq word (codes "page")) (page_of rest >>= λ page. Some (PageLine page)) fails (Some line) h.1) [
          | inl h ↦
              let p = bind_some (page_of rest) (λ page. Some (PageLine page)) line h.1 in
              rw (same_text word (codes "page") h.0) (subst (λ (l : Line). Spelled (codes "page" ∷ rest) l) (same_Some (PageLine p.0) line p.2) (page_read rest p.0 p.1))
          | inr h ↦ elim (chosen (bytes_eq word (codes "fail")) (fail_of rest >>= λ call. Some (FailLine call)) draws (Some line) h.1) [
            | inl h ↦
                let k = bind_some (fail_of rest) (λ call. Some (FailLine call)) line h.1 in
                rw (same_text word (codes "fail") h.0) (subst (λ (l : Line). Spelled (codes "fail" ∷ rest) l) (same_Some (FailLine k.0) line k.2) (fail_read rest k.0 k.1))
            | inr h ↦ elim (chosen (bytes_eq word (codes "draw")) (draw_of rest >>= λ draw. Some (DrawLine draw)) hosts (Some line) h.1) [
              | inl h ↦
                  let d = bind_some (draw_of rest) (λ draw. Some (DrawLine draw)) line h.1 in
                  rw (same_text word (codes "draw") h.0) (subst (λ (l : Line). Spelled (codes "draw" ∷ rest) l) (same_Some (DrawLine d.0) line d.2) (draw_read rest d.0 d.1))
              | inr h ↦ elim (chosen (bytes_eq word (codes "host")) (command_of rest >>= λ command. Some (CommandLine command)) owners (Some line) h.1) [
                | inl h ↦
                    let c = bind_some (command_of rest) (λ command. Some (CommandLine command)) line h.1 in
                    let read = command_read rest c.0 c.1 in
                    rw (same_text word (codes "host") h.0) (subst (λ (l : Line). Spelled (codes "host" ∷ rest) l) (same_Some (CommandLine c.0) line c.2) (ap (λ (t : List (List ℕ)). codes "host" ∷ t) read.0, read.1))
                | inr h ↦
                    let owner = bind_some (number_of word) (λ owner. call_line_of owner rest) line h.1 in
                    let is = number_is word owner.0 owner.1 in
                    rw is.1 (call_line_read owner.0 rest line is.0 owner.2)
              ]
            ]
          ]
        ]
      ]
    ]

-- the line that is read is the one that the words spell
pub line_read : (ws : List (List ℕ)) (line : Line) → line_of ws ≡ Some line → Spelled ws line
unfolding line_of
line_read [] line e = absurd (none-some line e)
line_read (word ∷ rest) line e = elim (chosen (bytes_eq word (codes "turns")) (turns_line_of rest) (plain_line_of word rest) (Some line) e) [
  | inl h ↦ rw (same_text word (codes "turns") h.0) (turns_line_read rest line h.1)
  | inr h ↦ plain_line_read word rest line h.1
]

-- ---- again

online_again : (kind : Kind) → online_kind_of (online_word kind ∷ []) ≡ Some kind
unfolding online_kind_of
online_again Movable = refl
online_again Unmovable = refl

page_again : (page : ℕ) (kind : Kind) (frame : ℕ) → IsNumber page → IsNumber frame → page_of (decimal page ∷ kind_word kind ∷ decimal frame ∷ []) ≡ Some (record { page = record { 0 = page }; kind = kind; frame = record { 0 = frame } })
unfolding page_of
page_again page Movable frame a b = rw (number_again page a, number_again frame b) refl
page_again page Unmovable frame a b = rw (number_again page a, number_again frame b) refl

write_again : (first : ℕ) (values : List ℕ) → IsNumber first → 1 ≤ length values → length values ≤ 8 → AllByRecursion IsNumber values → write_of (decimal first ∷ map decimal values) ≡ Some (calls.Write first values)
unfolding write_of
write_again first values b least most fit = rw (number_again first b, values_again values 8 fit most, ne_eqb (length values) 0 (λ e. omega arith)) refl

turns_line_again : (turns : List NamedTurn) → 1 ≤ length turns → AllByRecursion HasTurnNumbers turns → turns_line_of (map (λ t. turn_word t.actor t.count) turns) ≡ Some (TurnsLine turns)
unfolding turns_line_of
turns_line_again turns least fit = rw (turns_again turns fit, ne_eqb (length turns) 0 (λ e. omega arith)) refl

-- a count is read again before the words of a call, which begin with no count
count_again : (count : Option ℕ) (page : ℕ) (call : Call) → IfSome count IsNumber → count_at (count_words count ++ call_words page call) ≡ Some (count, call_words page call)
count_again (Some n) page call h = rw (number_again n h) refl
count_again None page (calls.Alloc kind) h = refl
count_again None page calls.Free h = refl
count_again None page (calls.Read first count) h = refl
count_again None page (calls.Write first values) h = refl
count_again None page (calls.Add cell value) h = refl
count_again None page calls.Pin h = refl
count_again None page calls.Unpin h = refl

alloc_again : (kind : Kind) → alloc_of (kind_word kind ∷ []) ≡ Some (calls.Alloc kind)
unfolding alloc_of
alloc_again Movable = refl
alloc_again Unmovable = refl

call_again : (page : ℕ) (call : Call) → IsNumber page → HasNumbers call → call_of (call_words page call) ≡ Some (page, call)
unfolding call_of named_call read_of add_of
call_again page (calls.Alloc kind) p h = rw (number_again page p, alloc_again kind) refl
call_again page calls.Free p h = rw (number_again page p) refl
call_again page (calls.Read first count) p h = rw (number_again page p, number_again first h.0, number_again count h.1) refl
call_again page (calls.Write first values) p h = rw (number_again page p, write_again first values h.0 h.1 h.2 h.3) refl
call_again page (calls.Add cell value) p h = rw (number_again page p, number_again cell h.0, number_again value h.1) refl
call_again page calls.Pin p h = rw (number_again page p) refl
call_again page calls.Unpin p h = rw (number_again page p) refl

call_line_again : (owner : ℕ) (count : Option ℕ) (page : ℕ) (call : Call) → IfSome count IsNumber → IsNumber page → HasNumbers call → call_line_of owner (count_words count ++ call_words page call) ≡ Some (CallLine owner count page call)
unfolding call_line_of
call_line_again owner count page call k p h = rw (count_again count page call k, call_again page call p h) refl

owner_again : (owner : ℕ) (rest : List (List ℕ)) → IsNumber owner → line_of (decimal owner ∷ rest) ≡ call_line_of owner rest
unfolding line_of plain_line_of
owner_again owner rest lt = rw (number_is_no_name owner (codes "turns") lt refl, number_is_no_name owner (codes "machine") lt refl, number_is_no_name owner (codes "online") lt refl, number_is_no_name owner (codes "page") lt refl, number_is_no_name owner (codes "fail") lt refl, number_is_no_name owner (codes "draw") lt refl, number_is_no_name owner (codes "host") lt refl, number_again owner lt) refl

command_again : (c : HostCommand) → HasBytes c → command_of (command_words c) ≡ Some c
unfolding command_of request_of
command_again (commands.Request bytes) h = rw (hex_again bytes h.1 h.2, ne_eqb (length bytes) 0 (λ e. omega (arith, h.0))) refl
command_again commands.Config h = refl

pub line_again : (line : Line) → Fits line → line_of (words_of line) ≡ Some line
unfolding line_of plain_line_of machine_of fail_of draw_of
line_again (MachineLine s) fits = rw (number_again s.cells fits.0, number_again s.block fits.1.0, number_again s.boot fits.1.1.0, number_again s.managed fits.1.1.1.0, number_again s.plugged fits.1.1.1.1.0, number_again s.pages fits.1.1.1.1.1.0) refl
line_again (OnlineLine kind) fits = ap (λ o. o >>= λ k. Some (OnlineLine k)) (online_again kind)
line_again (PageLine p) fits = ap (λ o. o >>= λ page. Some (PageLine page)) (page_again p.page.0 p.kind p.frame.0 fits.0 fits.1)
line_again (FailLine call) fits = rw (number_again call fits) refl
line_again (TurnsLine turns) fits = turns_line_again turns fits.0 fits.1
line_again (DrawLine d) fits = rw (number_again d.number fits.0, number_again d.count fits.1) refl
line_again (CallLine owner count page call) fits =
    owner_again owner (count_words count ++ call_words page call) fits.0 ∙ call_line_again owner count page call fits.1 fits.2 fits.3
line_again (CommandLine command) fits = ap (λ o. o >>= λ c. Some (CommandLine c)) (command_again command fits)
