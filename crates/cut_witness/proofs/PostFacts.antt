-- What the posts and the clocks tell, event by event.
use Rattle.std.proofs.Common.{◌≡◌, ℕ, ◌+◌, ◌<◌, ◌≤◌, max, Bool, true, false, cond, List, take, drop, Option, Some, None, refl, sym, ap, ◌∙◌, subst, inl, inr, arith}
use Rattle.std.specs.Prelude.{Contains, slice_get}
use Rattle.std.proofs.lemmas.Bool.{cases_eq, cases_lt, eq-eqb, ne_eqb}
use Rattle.std.proofs.lemmas.List.{take-append-drop}
use Rattle.std.proofs.lemmas.List.Elements.{Contains-append_right}
use Rattle.nm_base.specs.declared.letter.LetterId.{LetterId}
use Rattle.nm_base.specs.declared.letter.Stamp.{Stamp}
use Rattle.nm_base.specs.Message.{Message, same_name}
use Rattle.vector_clocks.specs.Parts.{part, merged_part}
use Rattle.event_list.specs.declared.Event.{Event}
use Rattle.event_list.specs.Events.{letter_of, taken_of}
use Rattle.event_list.specs.Order.{Follows, Delivers, Before, one, further}
use Rattle.event_list.specs.Runs.{Sound}
use Rattle.event_list.proofs.Members.{cons_there}
use Rattle.event_list.proofs.Projections.{name_from}
use Rattle.event_list.proofs.Soundness.{numbers}
use Rattle.causal_stop.proofs.PlaceFacts.{rises, at_place, in_place, at_drop, before_place}
use Rattle.cut_witness.specs.declared.posts.Post.{Post}
use Rattle.cut_witness.specs.private.Posts.{IsPost, ArePosts, Knows, posted, added, taken_post, brought, own_part}

some_same : {X : Type 0} (x y : X) → Some x ≡ Some y → x ≡ y
some_same x y h = cc

none_some : {X : Type 0} (x : X) → None ≡ Some x → ⊥
none_some x h = cc

-- the parts after a merge
pub merged_same : (clock : ℕ → ℕ → ℕ) (p : ℕ) (stamp : ℕ → ℕ) (r q : ℕ) → r ≡ p → merged_part clock p stamp r q ≡ max (clock r q) (stamp q)
merged_same clock p stamp r q e = ap (λ b. cond b (max (clock r q) (stamp q)) (clock r q)) (eq-eqb r p e)

pub merged_other : (clock : ℕ → ℕ → ℕ) (p : ℕ) (stamp : ℕ → ℕ) (r q : ℕ) → (r ≡ p → ⊥) → merged_part clock p stamp r q ≡ clock r q
merged_other clock p stamp r q n = ap (λ b. cond b (max (clock r q) (stamp q)) (clock r q)) (ne_eqb r p n)

-- before the walk nothing is known
pub knows_nothing : {M : ℕ} {E : List Event} → Sound M E → (clock : ℕ → ℕ → ℕ) → ((p q : ℕ) → clock p q ≡ 0) → Knows E (drop 0 E) clock
knows_nothing g clock z = record { each = λ x a hx ha l. absurd (omega (arith, l, z a.proc.no x.proc.no, (numbers g x hx).0)) }

pub no_posts : (E : List Event) (posts : LetterId → Option Post) → ((id : LetterId) → posts id ≡ None) → ArePosts E posts
no_posts E posts n = record { each = λ id p t. absurd (none_some p (sym (n id) ∙ t)) }

module _ {M : ℕ} {E : List Event} (g : Sound M E) (i : ℕ) (e : Event) (at : slice_get E i ≡ Some e) where
  here : Contains E e
  here = in_place E i e at

  -- what is left after the event
  pub left_later : (a : Event) → Contains (drop (i + 1) E) a → a.proc.no ≡ e.proc.no → e.number < a.number
  left_later a h p = rises g (take (i + 1) E) (drop (i + 1) E) (sym (take-append-drop (i + 1) E)) e a (before_place E i (i + 1) e (omega arith) at) h (sym p)

  left_in : (a : Event) → Contains (drop (i + 1) E) a → Contains E a
  left_in a h = subst (λ zs. Contains zs a) (take-append-drop (i + 1) E) (Contains-append_right (take (i + 1) E) (drop (i + 1) E) a h)

  left_before : (a : Event) → Contains (drop (i + 1) E) a → Contains (drop i E) a
  left_before a h = subst (λ zs. Contains zs a) (sym (at_place E i e at).1) (cons_there e (drop (i + 1) E) a h)

  -- the event may add a post
  module _ (past : Stamp) (clock : ℕ → ℕ → ℕ) (k : Knows E (drop i E) clock) (counts : (q : ℕ) → part past q ≡ clock e.proc.no q) (old : LetterId → Option Post) (h : ArePosts E old) where
    new_post : (m : Message) → letter_of e ≡ Some m → (id : LetterId) → m.id ≡ id → IsPost E id (record { dest = m.dest; chan = m.chan; past = past })
    new_post m s id n = record {
      send = e;
      letter = m;
      sends = record { in_list = here; letter = s };
      named = n;
      to = refl;
      on = refl;
      past = λ x hx l. k.each x e hx (at_drop E i e at) (omega (arith, l, counts x.proc.no));
    }

    by_name : (m : Message) → letter_of e ≡ Some m → (id : LetterId) (p : Post) (b : Bool) → same_name m.id id ≡ b → cond b (Some record { dest = m.dest; chan = m.chan; past = past }) (old id) ≡ Some p → IsPost E id p
    by_name m s id p true n t = subst (IsPost E id) (some_same (record { dest = m.dest; chan = m.chan; past = past }) p t) (new_post m s id (name_from m.id id n))
    by_name m s id p false n t = h.each id p t

    by_letter : (o : Option Message) → letter_of e ≡ o → (id : LetterId) (p : Post) → added (posted past o) id (old id) ≡ Some p → IsPost E id p
    by_letter None s id p t = h.each id p t
    by_letter (Some m) s id p t = by_name m s id p (same_name m.id id) refl t

    pub posts_more : (new : LetterId → Option Post) → ((q : LetterId) → new q ≡ added (posted past (letter_of e)) q (old q)) → ArePosts E new
    posts_more new is = record { each = λ id p t. by_letter (letter_of e) refl id p (sym (is id) ∙ t) }

  -- and its process's clock counts more
  module _ (clock mid new : ℕ → ℕ → ℕ) (posts : LetterId → Option Post) (past own : Stamp) (k : Knows E (drop i E) clock) (h : ArePosts E posts)
      (brings : (q : ℕ) → part past q ≡ brought (taken_post posts (taken_of e)) q) (counts : (q : ℕ) → part own q ≡ own_part e.proc.no e.number q)
      (first : (r q : ℕ) → mid r q ≡ merged_part clock e.proc.no (part past) r q) (second : (r q : ℕ) → new r q ≡ merged_part mid e.proc.no (part own) r q) where
    by_process : (x a : Event) → Contains E x → Contains (drop (i + 1) E) a → a.proc.no ≡ e.proc.no → x.number ≤ own_part e.proc.no e.number x.proc.no → Before E x a
    by_process x a hx ha p l = elim (cases_eq x.proc.no e.proc.no) [
      | inl same ↦ one record { first = hx; second = left_in a ha; how = inl record { same = same ∙ sym p; later = omega (arith, l, ap (λ b. cond b e.number 0) (eq-eqb x.proc.no e.proc.no same), left_later a ha p) } }
      | inr other ↦ absurd (omega (arith, l, ap (λ b. cond b e.number 0) (ne_eqb x.proc.no e.proc.no other), (numbers g x hx).0))
    ]

    by_post : (x a : Event) → Contains E x → Contains (drop (i + 1) E) a → a.proc.no ≡ e.proc.no → (id : LetterId) → taken_of e ≡ Some id → (p : Post) → IsPost E id p → x.number ≤ part p.past x.proc.no → Before E x a
    by_post x a hx ha s id t p is l =
        let d : Delivers is.send e = record { letter = is.letter; sent = is.sends.letter; taken = t ∙ ap Some (sym is.named) } in
        let f : Follows e a = record { same = sym s; later = left_later a ha s } in
        further (further (is.past x hx l) record { first = is.sends.in_list; second = here; how = inr d }) record { first = here; second = left_in a ha; how = inl f }

    by_found : (x a : Event) → Contains E x → Contains (drop (i + 1) E) a → a.proc.no ≡ e.proc.no → (id : LetterId) → taken_of e ≡ Some id → (o : Option Post) → posts id ≡ o → x.number ≤ brought o x.proc.no → Before E x a
    by_found x a hx ha s id t None is l = absurd (omega (arith, l, (numbers g x hx).0))
    by_found x a hx ha s id t (Some p) is l = by_post x a hx ha s id t p (h.each id p is) l

    by_taken : (x a : Event) → Contains E x → Contains (drop (i + 1) E) a → a.proc.no ≡ e.proc.no → (o : Option LetterId) → taken_of e ≡ o → x.number ≤ brought (taken_post posts o) x.proc.no → Before E x a
    by_taken x a hx ha s None t l = absurd (omega (arith, l, (numbers g x hx).0))
    by_taken x a hx ha s (Some id) t l = by_found x a hx ha s id t (posts id) refl l

    in_process : (x a : Event) → Contains E x → Contains (drop (i + 1) E) a → a.proc.no ≡ e.proc.no → x.number ≤ new a.proc.no x.proc.no → Before E x a
    in_process x a hx ha s l =
        let n = second a.proc.no x.proc.no ∙ merged_same mid e.proc.no (part own) a.proc.no x.proc.no s in
        let m = first a.proc.no x.proc.no ∙ merged_same clock e.proc.no (part past) a.proc.no x.proc.no s in
        elim (cases_lt (clock a.proc.no x.proc.no) x.number) [
          | inr below ↦ k.each x a hx (left_before a ha) below
          | inl above ↦ elim (cases_lt (part past x.proc.no) x.number) [
            | inr below ↦ by_taken x a hx ha s (taken_of e) refl (omega (arith, below, brings x.proc.no))
            | inl over ↦ by_process x a hx ha s (omega (arith, l, n, m, above, over, counts x.proc.no))
          ]
        ]

    pub knows_more : Knows E (drop (i + 1) E) new
    knows_more = record {
      each = λ x a hx ha l. elim (cases_eq a.proc.no e.proc.no) [
        | inl same ↦ in_process x a hx ha same l
        | inr other ↦
            let n = second a.proc.no x.proc.no ∙ merged_other mid e.proc.no (part own) a.proc.no x.proc.no other in
            let m = first a.proc.no x.proc.no ∙ merged_other clock e.proc.no (part past) a.proc.no x.proc.no other in
            k.each x a hx (left_before a ha) (omega (arith, l, n, m))
      ];
    }
