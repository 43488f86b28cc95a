use Rattle.std.proofs.Common.{rules, refl, length}
use Rattle.record_bytes.proofs.Named.{head_written}
use Rattle.record_bytes.proofs.heads.encode_head.Goals as goal

pub returns : goal.returns
returns c =
    record {
      within = c.requires;
      name = c.as_slice-name.ensures.name;
      script = search rules;
      bytes_are = head_written c.args.head.now c.new-out.result.items c.put.new.out.items c.put-2.new.out.items c.put-3.new.out.items c.put_script.new.out.items c.as_slice-name.result.now c.as_slice.result.now c.to_be_bytes.result (length c.as_slice-name.result.now)
          c.new-out.ensures.items c.as_slice-name.ensures.bytes c.as_slice.ensures c.to_be_bytes.ensures (search rules) refl c.in_ok-put-2.ensures c.in_ok-put-3.ensures (search rules);
    }
