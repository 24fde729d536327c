-- Words are judged one after the other, over the names that those before them left.
use Rattle.std.proofs.Common.{◌≡◌, ℕ, ◌≤◌, Option, Some, None, refl, ap, arith, Bool, true, false, inl, inr, ◌<◌, List, [], ◌∷◌, ◌++◌, length, sym, subst, ◌∙◌, ◌+◌, take, drop, get_or, ◌⊎◌, Result, Ok, Err, IfOk, IfErr}
use Rattle.std.specs.Prelude.{if◌then◌else◌, ◌==◌, ◌≢◌}
use Rattle.std.specs.Option.{option_map, unwrap_or, option_to_list}
use Rattle.std.proofs.lemmas.Bool.{eqb-true}
use Rattle.std.proofs.lemmas.Bool.Decides.{eqb_tells}
use Rattle.std.specs.BTreeMap.{BTreeMap, get, is_at, Updates, IsEmpty}
use Rattle.std.specs.Map.{lookup}
use Rattle.std.specs.declared.cmp.Ordering.{Ordering}
use Rattle.std.specs.declared.cmp.Ordering.TheVariants.{Less, Equal, Greater}
use Rattle.std.specs.FinMap as map
use Rattle.std.specs.FinMap.{nat_cmp-IsAntisymmetric, get-remove}
use Rattle.std.specs.Cmp.{nat_cmp_total}
use Rattle.std.specs.Ordering.{nat_cmp, is_eq}
use Rattle.arrayvec.specs.ArrayVec.{ArrayVec, array_vec_len}
use Rattle.std.proofs.lemmas.List.{take_more, take-append-drop, drop_more}
use Rattle.mach_types.specs.declared.rights.Disposition.{Disposition}
use Rattle.mach_types.specs.declared.rights.Disposition.TheVariants.{MoveReceive, MoveSend, MoveSendOnce, CopySend, MakeSend, MakeSendOnce}
use Rattle.mach_types.specs.Numbers.{disposition, kind_sent, null_word, dead_word}
use Rattle.mach_types.specs.Rights.{disposition_number}
use Rattle.mach_types.specs.Tokens.{send}
use Rattle.mach_types.specs.Grammar.{NamesPorts}
use Rattle.mach_model.proofs.Names.{get_own, get_other, removed_own}
use Rattle.mach_model.proofs.Walks.{Through-append, OneFails-after}
use Rattle.message_codec.specs.declared.words.PortWord.{PortWord}
use Rattle.name_space.specs.declared.Entry.{Entry}
use Rattle.name_space.specs.Names.{Names}
use Rattle.copyin_base.specs.Kept.{kind_of}
use Rattle.copyin_base.specs.Worlds.{put}
use Rattle.copyin_base.specs.declared.Carried.{Carried}
use Rattle.copyin_base.specs.declared.Mark.{Mark}
use Rattle.copyin_base.specs.declared.Mark.TheVariants as mark
use Rattle.copyin.specs.declared.touched.Touch.{Touch}
use Rattle.copyin.specs.declared.touched.Touched.{Touched}
use Rattle.copyin.specs.Overlays.{inline_touched, puts, over, Overlays}
use Rattle.dispositions.specs.declared.Copied.{Copied}
use Rattle.copyin.specs.PortWords.{PortWords}
use Rattle.dispositions.specs.Copies.{copied_from}
use Rattle.copyin.specs.Goes.{LeadsNowhere, OthersGo}
use Rattle.copyin.specs.Judging.{CopiesName, CopiesWord, CopiesReply, CopiesBody, IsBad, BodyIsBad}

-- ---- Dispositions and their numbers.

-- a disposition is that of its number
pub of_number : (d : Disposition) → disposition (disposition_number d) ≡ Some d
of_number MoveReceive = refl
of_number MoveSend = refl
of_number MoveSendOnce = refl
of_number CopySend = refl
of_number MakeSend = refl
of_number MakeSendOnce = refl

chain : (n : ℕ) (d : Disposition) (a b c x e f : Bool) → n == 16 ≡ a → n == 17 ≡ b → n == 18 ≡ c → n == 19 ≡ x → n == 20 ≡ e → n == 21 ≡ f →
    (if a then Some MoveReceive else if b then Some MoveSend else if c then Some MoveSendOnce else if x then Some CopySend else if e then Some MakeSend else if f then Some MakeSendOnce else None) ≡ Some d →
    disposition_number d ≡ n
chain n d true b c x e f h1 h2 h3 h4 h5 h6 is = let s : Some MoveReceive ≡ Some d = is in let r : n ≡ 16 = eqb-true n 16 h1 in cc
chain n d false true c x e f h1 h2 h3 h4 h5 h6 is = let s : Some MoveSend ≡ Some d = is in let r : n ≡ 17 = eqb-true n 17 h2 in cc
chain n d false false true x e f h1 h2 h3 h4 h5 h6 is = let s : Some MoveSendOnce ≡ Some d = is in let r : n ≡ 18 = eqb-true n 18 h3 in cc
chain n d false false false true e f h1 h2 h3 h4 h5 h6 is = let s : Some CopySend ≡ Some d = is in let r : n ≡ 19 = eqb-true n 19 h4 in cc
chain n d false false false false true f h1 h2 h3 h4 h5 h6 is = let s : Some MakeSend ≡ Some d = is in let r : n ≡ 20 = eqb-true n 20 h5 in cc
chain n d false false false false false true h1 h2 h3 h4 h5 h6 is = let s : Some MakeSendOnce ≡ Some d = is in let r : n ≡ 21 = eqb-true n 21 h6 in cc
chain n d false false false false false false h1 h2 h3 h4 h5 h6 is = absurd (let s : None ≡ Some d = is in cc)

-- and its number is the one that gave it
pub number_of : (n : ℕ) (d : Disposition) → disposition n ≡ Some d → disposition_number d ≡ n
number_of n d is = chain n d (n == 16) (n == 17) (n == 18) (n == 19) (n == 20) (n == 21) refl refl refl refl refl refl is

pub kind_given : (n : ℕ) (d : Disposition) → disposition n ≡ Some d → kind_of n ≡ kind_sent d
kind_given n d is = ap (λ (o : Option Disposition). unwrap_or (option_map kind_sent o) send) is

-- each of these numbers has one
pub given_ports : (n : ℕ) → NamesPorts n → (d : Disposition) × (disposition n ≡ Some d)
given_ports n is = elim (eqb_tells n 16) [
  | inl h ↦ (MoveReceive, ap disposition h.1)
  | inr h1 ↦ elim (eqb_tells n 17) [
    | inl h ↦ (MoveSend, ap disposition h.1)
    | inr h2 ↦ elim (eqb_tells n 18) [
      | inl h ↦ (MoveSendOnce, ap disposition h.1)
      | inr h3 ↦ elim (eqb_tells n 19) [
        | inl h ↦ (CopySend, ap disposition h.1)
        | inr h4 ↦ elim (eqb_tells n 20) [
          | inl h ↦ (MakeSend, ap disposition h.1)
          | inr h5 ↦ elim (eqb_tells n 21) [
            | inl h ↦ (MakeSendOnce, ap disposition h.1)
            | inr h6 ↦ absurd (not_these n is.0 is.1 h1.1 h2.1 h3.1 h4.1 h5.1 h6.1)
          ]
        ]
      ]
    ]
  ]
]
  where
    not_these : (n : ℕ) → 16 ≤ n → n ≤ 21 → (n ≡ 16 → ⊥) → (n ≡ 17 → ⊥) → (n ≡ 18 → ⊥) → (n ≡ 19 → ⊥) → (n ≡ 20 → ⊥) → (n ≡ 21 → ⊥) → ⊥
    not_these n lo hi a b c d e f = omega (arith, lo, hi, a, b, c, d, e, f)

-- ---- Names that were touched, over those that stood there.

not_at : (a b : ℕ) → b ≢ a → is_at (nat_cmp a) b ≡ false
not_at a b not = go (nat_cmp a b) refl
  where
    go : (r : Ordering) → nat_cmp a b ≡ r → is_eq r ≡ false
    go Less e = refl
    go Greater e = refl
    go Equal e = absurd (not (sym (nat_cmp-IsAntisymmetric a b e)))

get-remove_other : (m : Names) (name n : ℕ) → n ≢ name → map.get (map.remove m name) n ≡ map.get m n
get-remove_other m name n not = get-remove nat_cmp_total m name n ∙ rw (not_at n name (λ e. not (sym e))) refl

-- what stands under names after this was put under one
pub get_put : (names : Names) (name : ℕ) (left : Option Entry) → map.get (put names name left) name ≡ left
get_put names name None = removed_own names name
get_put names name (Some e) = get_own names name e

pub get_put_other : (names : Names) (name : ℕ) (left : Option Entry) (q : ℕ) → q ≢ name → map.get (put names name left) q ≡ map.get names q
get_put_other names name None q not = get-remove_other names name q not
get_put_other names name (Some e) q not = get_other names name e q not

-- names that agree still do after this was put under one
put_alike : (a b : Names) (name : ℕ) (left : Option Entry) → ((q : ℕ) → map.get a q ≡ map.get b q) → (q : ℕ) → map.get (put a name left) q ≡ map.get (put b name left) q
put_alike a b name left same q = elim (eqb_tells q name) [
  | inl h ↦ rw h.1 (get_put a name left ∙ sym (get_put b name left))
  | inr h ↦ get_put_other a name left q h.1 ∙ same q ∙ sym (get_put_other b name left q h.1)
]

-- ---- the first few

pub puts-push : (names : Names) (ts : List Touch) (t : Touch) → puts names (ts ++ t ∷ []) ≡ put (puts names ts) t.name t.left
puts-push names [] t = refl
puts-push names (x ∷ xs) t = puts-push (put names x.name x.left) xs t

none_of_many : (touched : Touched) (q : ℕ) → IsEmpty touched.many → get nat_cmp touched.many q ≡ None
none_of_many touched q empty = ap (λ (es : List (ℕ × Option Entry)). lookup (is_at (nat_cmp q)) es) empty

pub overlays-few : (old new : Touched) (names now : Names) (t : Touch) → array_vec_len old.few < inline_touched → new.few.items ≡ old.few.items ++ t ∷ [] → new.many ≡ old.many
    → Overlays old names now → Overlays new names (put now t.name t.left)
overlays-few old new names now t less few many o =
    let empty : IsEmpty old.many = o.in_turn less in
    let alike : (q : ℕ) → map.get now q ≡ map.get (puts names old.few.items) q =
    λ q. o.each q ∙ ap (λ (x : Option (Option Entry)). over x (map.get (puts names old.few.items) q)) (none_of_many old q empty) in
    let still : IsEmpty new.many = subst (λ (m : BTreeMap ℕ (Option Entry)). IsEmpty m) (sym many) empty in
    record {
      each = λ q.
          put_alike now (puts names old.few.items) t.name t.left alike q
          ∙ ap (λ (m : Names). map.get m q) (sym (puts-push names old.few.items t) ∙ ap (puts names) (sym few))
          ∙ ap (λ (x : Option (Option Entry)). over x (map.get (puts names new.few.items) q)) (sym (none_of_many new q still));
      in_turn = λ h. still;
    }

-- ---- and those that came later

pub overlays-many : (old new : Touched) (names now : Names) (name : ℕ) (left : Option Entry) → inline_touched ≤ array_vec_len old.few → new.few ≡ old.few
    → Updates nat_cmp old.many new.many name (Some left) → Overlays old names now → Overlays new names (put now name left)
overlays-many old new names now name left full few u o =
    let base : (q : ℕ) → map.get (puts names old.few.items) q ≡ map.get (puts names new.few.items) q =
    λ q. ap (λ (f : ArrayVec Touch). map.get (puts names f.items) q) (sym few) in
    record {
      each = λ q. elim (eqb_tells q name) [
        | inl h ↦ subst (λ (n : ℕ). map.get (put now name left) n ≡ over (get nat_cmp new.many n) (map.get (puts names new.few.items) n)) (sym h.1)
            (get_put now name left ∙ sym (ap (λ (t : Option (Option Entry)). over t (map.get (puts names new.few.items) name)) u.1))
        | inr h ↦ get_put_other now name left q h.1 ∙ o.each q ∙ ap (over (get nat_cmp old.many q)) (base q)
            ∙ sym (ap (λ (t : Option (Option Entry)). over t (map.get (puts names new.few.items) q)) (u.2 q (not_at name q h.1)))
      ];
      in_turn = λ h. absurd (let e : array_vec_len new.few ≡ array_vec_len old.few = ap (λ (f : ArrayVec Touch). length f.items) few in omega arith);
    }

-- ---- and what stands there already

pub overlays-same : (touched : Touched) (names now : Names) (name : ℕ) (left : Option Entry) → map.get now name ≡ left → Overlays touched names now → Overlays touched names (put now name left)
overlays-same touched names now name left same o = record {
  each = λ q. elim (eqb_tells q name) [
    | inl h ↦ rw h.1 (get_put now name left ∙ sym same ∙ o.each name)
    | inr h ↦ get_put_other now name left q h.1 ∙ o.each q
  ];
  in_turn = o.in_turn;
}

-- ---- Words judged one after the other.

same_value : {X : Type 0} (o : Option X) (x y : X) → o ≡ Some x → o ≡ Some y → x ≡ y
same_value o x y a b = let e : Some x ≡ Some y = sym a ∙ b in cc

-- What stands under the name and the disposition decide what goes.
pub same_copied : (names : Names) (w : PortWord) (c : Carried) (after : Names) (d : Disposition) (e : Entry) (k : Copied) → CopiesName names w c after
    → disposition w.disposition ≡ Some d → map.get names w.name ≡ Some e → copied_from d e ≡ Some k → (c.given ≡ d) × (c.mark ≡ k.mark)
same_copied names w c after d e k is given found copied = grind (arith, same_value)

pub same_mark : (names : Names) (w : PortWord) (a b : Carried) (x y : Names) → CopiesName names w a x → CopiesName names w b y → b.mark ≡ a.mark
same_mark names w a b x y ca cb = grind (arith, same_copied)

pub leads_nowhere : (names : Names) (w : PortWord) (a : Carried) (x : Names) → CopiesName names w a x → ((p : ℕ) → ¬ (a.mark ≡ mark.Port p)) → LeadsNowhere names w
leads_nowhere names w a x ca not = λ p c after is cc'. not p (sym (same_mark names w a c x after ca cc') ∙ is)

-- nothing stands there, or nothing can go from it
pub none_found : (names : Names) (w : PortWord) → map.get names w.name ≡ None → (c : Carried) (after : Names) → ¬ (CopiesName names w c after)
none_found names w none c after is = let f = is.found in cc

pub none_copied : (names : Names) (w : PortWord) (d : Disposition) (e : Entry) → disposition w.disposition ≡ Some d → map.get names w.name ≡ Some e → copied_from d e ≡ None
    → (c : Carried) (after : Names) → ¬ (CopiesName names w c after)
none_copied names w d e given found none c after is = grind (arith, same_value)

-- ---- a body, word by word

-- The words so far go, and leave what is over the names.
pub record IsJudged (old new : Touched) (names : Names) (ws : List PortWord) (cs : List Carried) : Type 0 where
  pub so : (now : Names) → Overlays old names now → (mid : Names) × CopiesBody now ws cs mid × Overlays new names mid

pub judged-none : (old : Touched) (names : Names) → IsJudged old old names [] []
judged-none old names = record { so = λ now o. (now, refl, o) }

pub judged-more : (old mid new : Touched) (names : Names) (words : List PortWord) (i : ℕ) (w : PortWord) (cs : List Carried) (c : Carried) → i < length words
    → w ≡ get_or words i w → IsJudged old mid names (take i words) cs
    → ((now : Names) → Overlays mid names now → (after : Names) × CopiesWord now w c after × Overlays new names after)
    → IsJudged old new names (take (i + 1) words) (cs ++ c ∷ [])
judged-more old mid new names words i w cs c h is j goes = record {
  so = λ now o.
      let a = j.so now o in
      let b = goes a.0 a.2 in
      let more : take (i + 1) words ≡ take i words ++ w ∷ [] = take_more words i w h ∙ ap (λ (x : PortWord). take i words ++ x ∷ []) (sym is) in
      (b.0, subst (λ (ws : List PortWord). CopiesBody now ws (cs ++ c ∷ []) b.0) (sym more) (Through-append CopiesWord now a.0 b.0 (take i words) (w ∷ []) cs (c ∷ []) a.1 (b.0, b.1, refl)), b.2);
}

pub judged-bad : (old mid : Touched) (names : Names) (words : List PortWord) (i : ℕ) (w : PortWord) (cs : List Carried) → i < length words
    → w ≡ get_or words i w → IsJudged old mid names (take i words) cs
    → ((now : Names) → Overlays mid names now → IsBad now w)
    → (now : Names) → Overlays old names now → BodyIsBad now words
judged-bad old mid names words i w cs h is j bad now o =
    let a = j.so now o in
    let rest : drop i words ≡ w ∷ drop (i + 1) words = drop_more words i w h ∙ ap (λ (x : PortWord). x ∷ drop (i + 1) words) (sym is) in
    let whole : take i words ++ w ∷ drop (i + 1) words ≡ words = ap (λ (ws : List PortWord). take i words ++ ws) (sym rest) ∙ take-append-drop i words in
    subst (λ (ws : List PortWord). BodyIsBad now ws) whole (OneFails-after IsBad (λ names w after. (c : Carried) × CopiesWord names w c after) CopiesWord (λ m v d n goes. (d, goes))
    now a.0 (take i words) (w ∷ drop (i + 1) words) cs a.1 (inl (bad a.0 a.2)))

-- ---- words that are no names, and names

pub passes : (names : Names) (w : PortWord) (d : Disposition) (m : Mark) → disposition w.disposition ≡ Some d
    → (w.name ≡ null_word) × (m ≡ mark.Null) ⊎ (w.name ≡ dead_word) × (m ≡ mark.Dead) → CopiesWord names w (record { given = d; mark = m }) names
passes names w d m given (inl h) = rw h.0 (given, h.1, refl)
passes names w d m given (inr h) = rw h.0 (given, h.1, refl)

pub not_equal : (a b : ℕ) → a ≢ b → (a == b) ≡ false
not_equal a b not = elim (eqb_tells a b) [ inl h ↦ absurd (not h.1) | inr h ↦ h.0 ]

pub goes_by_name : (names : Names) (w : PortWord) (c : Carried) (after : Names) → w.name ≢ null_word → w.name ≢ dead_word → CopiesName names w c after → CopiesWord names w c after
goes_by_name names w c after null dead is = rw (not_equal w.name null_word null, not_equal w.name dead_word dead) is

pub by_name : (names : Names) (w : PortWord) (c : Carried) (after : Names) → w.name ≢ null_word → w.name ≢ dead_word → CopiesWord names w c after → CopiesName names w c after
by_name names w c after null dead is = rw (not_equal w.name null_word null, not_equal w.name dead_word dead) at is

pub ok_as : {A B : Type 0} (r : Result A B) (P Q : A → Type 0) → ((a : A) → P a → Q a) → IfOk r P → IfOk r Q
ok_as (Ok a) P Q f p = f a p
ok_as (Err e) P Q f p = tt

pub err_as : {A B : Type 0} (r : Result A B) (P Q : B → Type 0) → ((b : B) → P b → Q b) → IfErr r P → IfErr r Q
err_as (Ok a) P Q f p = tt
err_as (Err e) P Q f p = f e p

-- ---- no word but the destination's

pub none_replies : (names : Names) (o : Option PortWord) → o ≡ None → CopiesReply names (option_to_list o) None names
none_replies names None none = refl
none_replies names (Some w) none = absurd (cc)

pub none_goes : (names : Names) (ws : List PortWord) → ws ≡ [] → CopiesBody names ws [] names
none_goes names [] none = refl
none_goes names (w ∷ ws) none = absurd (cc)

-- ---- what stands for a right that goes

pub marked : (d : Disposition) (e : Entry) (m : Mark) → Some m ≡ option_map (λ (k : Copied). k.mark) (copied_from d e) → (k : Copied) × (copied_from d e ≡ Some k) × (m ≡ k.mark)
marked d e m is = some_mapped (copied_from d e) is
  where
    some_mapped : (o : Option Copied) → Some m ≡ option_map (λ (k : Copied). k.mark) o → (k : Copied) × (o ≡ Some k) × (m ≡ k.mark)
    some_mapped None h = absurd (cc)
    some_mapped (Some k) h = (k, refl, cc)

-- ---- one word beside the destination's, or none

pub reply_goes : (first : Names) (words : PortWords) (w : PortWord) (c : Carried) (after : Names) → words.reply ≡ Some w → words.body ≡ [] → CopiesWord first w c after
    → OthersGo first words (Some c) []
reply_goes first words w c after is none copies = record {
  second = after;
  reply = subst (λ (o : Option PortWord). CopiesReply first (option_to_list o) (Some c) after) (sym is) copies;
  last = after;
  body = none_goes after words.body none;
}

pub none_go : (first : Names) (words : PortWords) → words.reply ≡ None → words.body ≡ [] → OthersGo first words None []
none_go first words none empty = record {
  second = first;
  reply = none_replies first words.reply none;
  last = first;
  body = none_goes first words.body empty;
}

pub one_goes : (first : Names) (words : PortWords) (w : PortWord) (c : Carried) (after : Names) → words.reply ≡ None → words.body ≡ w ∷ [] → CopiesWord first w c after
    → OthersGo first words None (c ∷ [])
one_goes first words w c after none one copies = record {
  second = first;
  reply = none_replies first words.reply none;
  last = after;
  body = subst (λ (ws : List PortWord). CopiesBody first ws (c ∷ []) after) (sym one) (after, copies, refl);
}

pub one_bad : (first : Names) (words : PortWords) (w : PortWord) → words.body ≡ w ∷ [] → IsBad first w → BodyIsBad first words.body
one_bad first words w one bad = subst (λ (ws : List PortWord). BodyIsBad first ws) (sym one) (inl bad)

pub word_given : (names : Names) (w : PortWord) (c : Carried) (after : Names) → CopiesWord names w c after → disposition w.disposition ≡ Some c.given
word_given names w c after copies = grind arith
