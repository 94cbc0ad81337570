-- From the innermost caller outwards: what is known of some callers leads to what is known of one more.
use Rattle.std.proofs.Common.{◌≡◌, ℕ, zero, suc, ◌+◌, ◌-◌, ◌≤◌, ◌<◌, List, [], ◌∷◌, ◌++◌, length, get_or, map, take, reverse, refl, sym, ap, ◌∙◌, subst, append_assoc, arith}
use Rattle.std.proofs.lemmas.List.{append-nil, map-append, reverse-append}
use Rattle.wm_ast.specs.declared.module.Module.{Module}
use Rattle.wm_ast.specs.declared.module.ValType.{ValType}
use Rattle.wm_flat.specs.Flat.{Activation}
use Rattle.wm_view.specs.declared.view.FrameView.{FrameView}
use Rattle.wm_view.specs.Seen.{frames_round, waiting_frame}
use Rattle.cc_line.specs.Running.{Kept}
use Rattle.cc_call.specs.Frames.{base}
use Rattle.cc_cut.specs.Law.{widths}
use Rattle.cc_move.specs.Calls.{gives_of}
use Rattle.cc_simulate.specs.Callers.{Waits, Waiting}
use Rattle.cc_simulate.proofs.Frames.{widths_reverse}
use Rattle.pk_entries.specs.View.{entry_view}
use Rattle.pk_entries.specs.declared.entry.Entry.{Entry}
use Rattle.pk_callers.specs.steps.Lead.{Lead, IsLed}
use Rattle.pk_callers.specs.Shown.{ShowCallers, HaveNoCallers, CallerShown, HasNoCaller}

-- ---- a function matters by what it gives

pub waits_by : (m : Module) (n k : ℕ) (c : Activation) (b : Kept) → gives_of m n ≡ gives_of m k → Waits m n c b → Waits m k c b
waits_by m n k c b e w = record {
  cut = w.cut;
  is_cut = w.is_cut;
  piece = w.piece;
  is_piece = w.is_piece;
  type = w.type;
  behind = w.behind;
  gives = w.gives ∙ e;
  follows = w.follows;
  held = w.held;
  stands = λ us t. w.stands us (t ∙ sym e);
}

pub waiting_by : (m : Module) (n k : ℕ) (cs : List Activation) (bs : List Kept) → gives_of m n ≡ gives_of m k → Waiting m n cs bs → Waiting m k cs bs
waiting_by m n k [] bs e w = w ∙ ap (λ ts. base (widths ts) ∷ []) e
waiting_by m n k (c ∷ cs) bs e w = (w.0, w.1, w.2, waits_by m n k c w.1 e w.3, w.4)

-- ---- frames

pub frames_apart : (cs : List Activation) (fs : List FrameView) → frames_round cs fs ≡ frames_round cs [] ++ fs
frames_apart [] fs = refl
frames_apart (c ∷ cs) fs =
    frames_apart cs (waiting_frame c ∷ fs)
    ∙ sym (append_assoc (frames_round cs []) (waiting_frame c ∷ []) fs)
    ∙ ap (λ gs. gs ++ fs) (sym (frames_apart cs (waiting_frame c ∷ [])))

-- ---- the last element

last_tells : (xs ys : List Kept) (a b : Kept) → xs ++ a ∷ [] ≡ ys ++ b ∷ [] → (xs ≡ ys) × (a ≡ b)
last_tells [] [] a b e = let same : a ≡ b = cc in (refl, same)
last_tells [] (y ∷ []) a b e = absurd cc
last_tells [] (y ∷ (z ∷ ys)) a b e = absurd cc
last_tells (x ∷ []) [] a b e = absurd cc
last_tells (x ∷ (z ∷ xs)) [] a b e = absurd cc
last_tells (x ∷ xs) (y ∷ ys) a b e =
    let first : x ≡ y = cc in
    let others : xs ++ a ∷ [] ≡ ys ++ b ∷ [] = cc in
    let (same, last) = last_tells xs ys a b others in
    let both : x ∷ xs ≡ y ∷ ys = cc in
    (both, last)

reverse_more : {A : Type 0} (xs : List A) (x : A) → reverse (xs ++ x ∷ []) ≡ x ∷ reverse xs
reverse_more xs x = reverse-append xs (x ∷ [])

nothing_behind : (xs : List Kept) (b : Kept) → xs ++ b ∷ [] ≡ [] → ⊥
nothing_behind [] b e = cc
nothing_behind (x ∷ xs) b e = cc

-- nobody waits with no entry
unwaited : (m : Module) (n : ℕ) (cs : List Activation) → Waiting m n cs [] → ⊥
unwaited m n [] w = cc
unwaited m n (c ∷ cs) w = nothing_behind w.0 w.1 (sym w.2)

-- ---- some callers

pub lead_none : (m : Module) (gives : List ValType) → Lead m gives [] [] gives
lead_none m gives = record {
  some = λ n e. (n, e);
  onward = λ n k e f ds bs w. (ds, subst (Waiting m n ds) (sym (append-nil bs)) (waiting_by m k n ds bs (f ∙ sym e) w), sym (append-nil (frames_round ds [])));
  back = λ n cs b bs e w. (n, cs, e, subst (Waiting m n cs) (append-nil (b ∷ bs)) w);
}

module _ (m : Module) (gives own : List ValType) (ys : List Kept) (fs : List FrameView) (l : Lead m gives ys fs own) where
  -- the entries with one more
  entries_more : (b : Kept) (bs : List Kept) → (bs ++ b ∷ []) ++ reverse ys ≡ bs ++ reverse (ys ++ b ∷ [])
  entries_more b bs = append_assoc bs (b ∷ []) (reverse ys) ∙ ap (λ xs. bs ++ xs) (sym (reverse_more ys b))

  -- who waits over one entry at least, and with one more
  pub record Further (b x : Kept) (bs : List Kept) : Type 0 where
    pub callee : ℕ
    pub caller : Activation
    pub callers : List Activation
    pub gives_is : gives_of m callee ≡ reverse own
    pub waits : Waits m callee caller x
    pub waiting : Waiting m caller.func callers (b ∷ bs)

  further : (n : ℕ) (cs : List Activation) (b x : Kept) (bs : List Kept) → gives_of m n ≡ reverse gives → Waiting m n cs ((b ∷ bs) ++ reverse (ys ++ x ∷ [])) → Further b x bs
  further n cs b x bs e w = go found.0 found.1 found.2 found.3
    where
      found : (k : ℕ) × (ds : List Activation) × (gives_of m k ≡ reverse own) × Waiting m k ds (b ∷ (bs ++ x ∷ []))
      found = l.back n cs b (bs ++ x ∷ []) e (subst (Waiting m n cs) (sym (entries_more x (b ∷ bs))) w)

      go : (k : ℕ) (ds : List Activation) → gives_of m k ≡ reverse own → Waiting m k ds (b ∷ (bs ++ x ∷ [])) → Further b x bs
      go k [] g v = absurd (let none : bs ++ x ∷ [] ≡ [] = cc in nothing_behind bs x none)
      go k (c ∷ ds) g v =
          let (rest, last) = last_tells (b ∷ bs) v.0 x v.1 v.2 in
          record {
            callee = k;
            caller = c;
            callers = ds;
            gives_is = g;
            waits = subst (Waits m k c) (sym last) v.3;
            waiting = subst (Waiting m c.func ds) (sym rest) v.4;
          }

  -- no caller waits with one more
  pub lead_stops : (b x : Kept) (bs : List Kept) → HasNoCaller m own x → HaveNoCallers m gives ((b ∷ bs) ++ reverse (ys ++ x ∷ []))
  lead_stops b x bs none n cs e w =
      let f = further n cs b x bs e w in
      none f.callee f.caller f.gives_is f.waits

  -- one does
  module _ (x : Kept) (f : FrameView) (next : List ValType) (s : CallerShown m own x f next) where
    func_gives : (c : Activation) → c.func ≡ f.func → gives_of m c.func ≡ reverse next
    func_gives c e = ap (gives_of m) e ∙ s.own_is

    further_on : (n k : ℕ) → gives_of m n ≡ reverse gives → gives_of m k ≡ reverse next → (ds : List Activation) (bs : List Kept) → Waiting m k ds bs
        → (cs : List Activation) × Waiting m n cs (bs ++ reverse (ys ++ x ∷ [])) × (frames_round cs [] ≡ frames_round ds [] ++ reverse (fs ++ f ∷ []))
    further_on n k e g ds bs w =
        let (j, h) = l.some n e in
        let one = s.each j h in
        let c : Activation = one.caller in
        let own_func : c.func ≡ f.func = ap (λ (v : FrameView). v.func) (sym one.shown) in
        let over : Waiting m c.func ds bs = waiting_by m k c.func ds bs (g ∙ sym (func_gives c own_func)) w in
        let (cs, waiting, shown) = l.onward n j e h (c ∷ ds) (bs ++ x ∷ []) (bs, x, refl, one.waits, over) in (
          cs,
          subst (Waiting m n cs) (entries_more x bs) waiting,
          shown
              ∙ ap (λ gs. gs ++ reverse fs) (frames_apart ds (waiting_frame c ∷ []))
              ∙ append_assoc (frames_round ds []) (waiting_frame c ∷ []) (reverse fs)
              ∙ ap (λ v. frames_round ds [] ++ (v ∷ reverse fs)) (sym one.shown)
              ∙ ap (λ gs. frames_round ds [] ++ gs) (sym (reverse_more fs f)),
        )

    pub lead_more : Lead m gives (ys ++ x ∷ []) (fs ++ f ∷ []) next
    lead_more = record {
      some = λ n e. (f.func, s.own_is);
      onward = further_on;
      back = λ n cs b bs e w.
          let g = further n cs b x bs e w in
          (g.caller.func, g.callers, func_gives g.caller (s.only g.callee g.caller g.waits), g.waiting);
    }

  -- under them is the base
  pub lead_ends : (first : Kept) → first ≡ base (widths own) → ShowCallers m gives (first ∷ reverse ys) (reverse fs)
  lead_ends first is n e =
      let (k, g) = l.some n e in
      let bottom : first ∷ [] ≡ base (widths (gives_of m k)) ∷ [] = ap (λ b. b ∷ []) (is ∙ ap base (sym (ap widths g ∙ widths_reverse own))) in
      let (cs, waiting, shown) = l.onward n k e g [] (first ∷ []) bottom in
      record { callers = cs; waiting = waiting; shown = sym shown }

  -- it isn't
  pub lead_unbased : (first : Kept) → (first ≡ base (widths own) → ⊥) → HaveNoCallers m gives (first ∷ reverse ys)
  lead_unbased first differs n cs e w = go found.0 found.1 found.2 found.3
    where
      found : (k : ℕ) × (ds : List Activation) × (gives_of m k ≡ reverse own) × Waiting m k ds (first ∷ [])
      found = l.back n cs first [] e w

      go : (k : ℕ) (ds : List Activation) → gives_of m k ≡ reverse own → Waiting m k ds (first ∷ []) → ⊥
      go k [] g v = let same : first ≡ base (widths (gives_of m k)) = cc in differs (same ∙ ap base (ap widths g ∙ widths_reverse own))
      go k (c ∷ ds) g v = unwaited m c.func ds (subst (Waiting m c.func ds) (sym (last_tells [] v.0 first v.1 v.2).0) v.4)

-- ---- entries in their order

module _ (m : Module) (gives own : List ValType) (bs : List Kept) (fs : List FrameView) (l : IsLed m gives bs fs own) where
  pub led_ends : (first : Kept) (gs : List FrameView) → first ≡ base (widths own) → gs ≡ reverse fs → ShowCallers m gives (first ∷ bs) gs
  led_ends first gs is e =
      subst (ShowCallers m gives (first ∷ bs)) (sym e)
      (subst (λ (xs : List Kept). ShowCallers m gives (first ∷ xs) (reverse fs)) (sym l.turned) (lead_ends m gives own l.inner fs l.lead first is))

  pub led_unbased : (first : Kept) → (first ≡ base (widths own) → ⊥) → HaveNoCallers m gives (first ∷ bs)
  led_unbased first differs =
      subst (λ (xs : List Kept). HaveNoCallers m gives (first ∷ xs)) (sym l.turned) (lead_unbased m gives own l.inner fs l.lead first differs)

-- so many entries are left, and the others tell callers
pub record Leads (m : Module) (gives : List ValType) (all left : List Kept) (fs : List FrameView) (own : List ValType) : Type 0 where
  pub inner : List Kept
  pub parts : all ≡ left ++ reverse inner
  pub lead : Lead m gives inner fs own

pub leads_none : (m : Module) (gives own : List ValType) (all : List Kept) (fs : List FrameView) → own ≡ gives → fs ≡ [] → Leads m gives all all fs own
leads_none m gives own all fs e f = record {
  inner = [];
  parts = sym (append-nil all);
  lead = subst (λ (ts : List ValType). Lead m gives [] fs ts) (sym e) (subst (λ (gs : List FrameView). Lead m gives [] gs gives) (sym f) (lead_none m gives));
}

pub leads_end : (m : Module) (gives own : List ValType) (all left : List Kept) (fs : List FrameView) → left ≡ [] → Leads m gives all left fs own → IsLed m gives all fs own
leads_end m gives own all left fs e l = record {
  inner = l.inner;
  turned = l.parts ∙ ap (λ xs. xs ++ reverse l.inner) e;
  lead = l.lead;
}

module _ (m : Module) (gives own : List ValType) (all left outer : List Kept) (x : Kept) (fs : List FrameView) (parted : left ≡ outer ++ x ∷ []) (l : Leads m gives all left fs own) where
  parts_more : all ≡ outer ++ reverse (l.inner ++ x ∷ [])
  parts_more = l.parts ∙ ap (λ xs. xs ++ reverse l.inner) parted ∙ entries_more m gives own l.inner fs l.lead x outer

  pub leads_more : (f : FrameView) (next : List ValType) (gs : List FrameView) → gs ≡ fs ++ f ∷ [] → CallerShown m own x f next → Leads m gives all outer gs next
  leads_more f next gs e s = record {
    inner = l.inner ++ x ∷ [];
    parts = parts_more;
    lead = subst (λ (hs : List FrameView). Lead m gives (l.inner ++ x ∷ []) hs next) (sym e) (lead_more m gives own l.inner fs l.lead x f next s);
  }

  pub leads_stop : HasNoCaller m own x → (first : Kept) → HaveNoCallers m gives (first ∷ all)
  leads_stop none first =
      subst (λ (xs : List Kept). HaveNoCallers m gives (first ∷ xs)) (sym parts_more) (lead_stops m gives own l.inner fs l.lead first x outer none)

-- ---- the last of some entries

parted_at : {A : Type 0} (xs : List A) (i : ℕ) (x : A) → i + 1 ≡ length xs → x ≡ get_or xs i x → xs ≡ take i xs ++ x ∷ []
parted_at [] i x e s = absurd (omega arith)
parted_at (y ∷ []) zero x e s = ap (λ z. z ∷ []) (sym s)
parted_at (y ∷ (z ∷ ys)) zero x e s = absurd (omega arith)
parted_at (y ∷ ys) (suc i) x e s = ap (λ zs. y ∷ zs) (parted_at ys i x (omega arith) s)

pub entries_parted : (xs : List Entry) (x : Entry) → 1 ≤ length xs → x ≡ get_or xs (length xs - 1) x → map entry_view xs ≡ map entry_view (take (length xs - 1) xs) ++ entry_view x ∷ []
entries_parted xs x some s =
    ap (map entry_view) (parted_at xs (length xs - 1) x (omega arith) s)
    ∙ map-append entry_view (take (length xs - 1) xs) (x ∷ [])

pub none_wait : (m : Module) (xs : List Entry) (n : ℕ) (cs : List Activation) → length xs < 1 → Waiting m n cs (map entry_view xs) → ⊥
none_wait m [] n cs few w = unwaited m n cs w
none_wait m (x ∷ xs) n cs few w = omega arith
