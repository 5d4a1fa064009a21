pub mod MemberRow
