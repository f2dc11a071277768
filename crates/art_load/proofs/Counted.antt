-- One more command of a thread.
use Rattle.std.proofs.Common.{◌≡◌, List, [], ◌∷◌, ◌++◌, length-append, Option, Some, refl, ap, subst, arith}
use Rattle.std.proofs.lemmas.List.Sums.{sum_by-append}
use Rattle.std.specs.Prelude.{Result, Ok, Err, unwrap_or}
use Rattle.art_load.proofs.Totals.{one_more}
use Rattle.art_load.specs.Counts.{AreCounts, absent_in, added, found_in, inserted_in, kind_of, none_counted, one_of, present_in, refused_in, removed_in}
use Rattle.art_load.specs.Loads.{AnswersAs, Loads, asks_of}
use Rattle.art_sessions.specs.Points.{AnswersAll}
use Rattle.art_load.specs.declared.counts.Counts.{Counts}
use Rattle.art_load.specs.declared.counts.Kind.{Kind}
use Rattle.art_load.specs.declared.counts.Kind.TheVariants as kind
use Rattle.art_model.specs.declared.commands.Command.{Command}
use Rattle.art_model.specs.declared.commands.Reply.{Reply}
use Rattle.art_model.specs.declared.commands.Reply.TheVariants.{Inserted, Present, Removed, Absent, Found, Rows}
use Rattle.art_sessions.specs.ArtServer.Sessions.{AnswersCommand}
use Rattle.art_sessions.specs.ArtServer.ArtRefusal.declared.refusals.Refusal.{Refusal}
use Rattle.art_table.specs.Tables.{IsPassOf}
use Rattle.art_table.specs.declared.passes.Pass.{Pass}
use Rattle.art_table.specs.declared.tables.Table.{Table}

-- one command after the others
answers_more : (t : Table) (commands : List Command) (c : Command) (p m q : Pass) (replies : List (Result Reply Refusal))
    (reply : Result Reply Refusal)
    → AnswersAll t (asks_of commands) p replies m → AnswersCommand t c m reply q
    → AnswersAll t (asks_of (commands ++ c ∷ [])) p (replies ++ reply ∷ []) q
answers_more t [] c p m q replies reply none one =
    let said = ap (λ (l : List (Result Reply Refusal)). l ++ reply ∷ []) none.0 in
    let made = subst (λ (x : Pass). AnswersCommand t c x reply q) none.1 one in
    (reply, [], q, said, made, (refl, refl))
answers_more t (d ∷ commands) c p m q replies reply (first, others, between, is, made, rest) one = (
  first,
  others ++ reply ∷ [],
  between,
  ap (λ (l : List (Result Reply Refusal)). l ++ reply ∷ []) is,
  made,
  answers_more t commands c between m q others reply rest one,
)

-- ---- the counts with one reply more

-- these are the counts of the one reply
abbrev IsOne : Result Reply Refusal → Counts → Type 0
IsOne reply d = AreCounts d (reply ∷ [])

-- those of the replies and of one more
both : (c d : Counts) (replies : List (Result Reply Refusal)) (reply : Result Reply Refusal) → AreCounts c replies → IsOne reply d
    → AreCounts (added c d) (replies ++ reply ∷ [])
both c d replies reply are one = record {
  inserted = (let a = are.inserted in let b = one.inserted in omega (arith, a, b, sum_by-append inserted_in replies (reply ∷ [])));
  present = (let a = are.present in let b = one.present in omega (arith, a, b, sum_by-append present_in replies (reply ∷ [])));
  removed = (let a = are.removed in let b = one.removed in omega (arith, a, b, sum_by-append removed_in replies (reply ∷ [])));
  absent = (let a = are.absent in let b = one.absent in omega (arith, a, b, sum_by-append absent_in replies (reply ∷ [])));
  found = (let a = are.found in let b = one.found in omega (arith, a, b, sum_by-append found_in replies (reply ∷ [])));
  refused = (let a = are.refused in let b = one.refused in omega (arith, a, b, sum_by-append refused_in replies (reply ∷ [])));
}

-- a reply is counted by its kind
by_kind : (reply : Result Reply Refusal) (l k : Kind) → Some l ≡ Some k → IsOne reply (one_of l) → IsOne reply (one_of k)
by_kind reply l k is one = subst (λ (x : Kind). IsOne reply (one_of x)) (ap (λ (o : Option Kind). unwrap_or o l) is) one

one_reply : (reply : Result Reply Refusal) (k : Kind) → kind_of reply ≡ Some k → IsOne reply (one_of k)
one_reply (Ok Inserted) k is =
    by_kind (Ok Inserted) kind.Inserted k is
    (record { inserted = refl; present = refl; removed = refl; absent = refl; found = refl; refused = refl })
one_reply (Ok (Present value)) k is =
    by_kind (Ok (Present value)) kind.Present k is
    (record { inserted = refl; present = refl; removed = refl; absent = refl; found = refl; refused = refl })
one_reply (Ok (Removed value)) k is =
    by_kind (Ok (Removed value)) kind.Removed k is
    (record { inserted = refl; present = refl; removed = refl; absent = refl; found = refl; refused = refl })
one_reply (Ok Absent) k is =
    by_kind (Ok Absent) kind.Absent k is
    (record { inserted = refl; present = refl; removed = refl; absent = refl; found = refl; refused = refl })
one_reply (Ok (Found value)) k is =
    by_kind (Ok (Found value)) kind.Found k is
    (record { inserted = refl; present = refl; removed = refl; absent = refl; found = refl; refused = refl })
one_reply (Err refusal) k is =
    by_kind (Err refusal) kind.Refused k is
    (record { inserted = refl; present = refl; removed = refl; absent = refl; found = refl; refused = refl })
one_reply (Ok (Rows rows more)) k is = cc

-- ---- a thread with one command more

pub loads_more : (t : Table) (commands : List Command) (command : Command) (p m q : Pass) (c : Counts) (k : Kind)
    → IsPassOf t q → Loads t commands p c m → AnswersAs t command m k q
    → Loads t (commands ++ command ∷ []) p (added c (one_of k)) q
loads_more t commands command p m q c k is so_far (reply, one, kind_is) = record {
  pass = is;
  replies = so_far.replies ++ reply ∷ [];
  answers = answers_more t commands command p m q so_far.replies reply so_far.answers one;
  counts = both c (one_of k) so_far.replies reply so_far.counts (one_reply reply k kind_is);
  total = (
      let a = one_more c k in
      let b = so_far.total in
      let l = length-append commands (command ∷ []) in
      omega (arith, a, b, l)
      );
}

pub loads_none : (t : Table) (p : Pass) → IsPassOf t p → Loads t [] p none_counted p
loads_none t p is = record {
  pass = is;
  replies = [];
  answers = (refl, refl);
  counts = record { inserted = refl; present = refl; removed = refl; absent = refl; found = refl; refused = refl };
  total = refl;
}
