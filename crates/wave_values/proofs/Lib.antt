pub mod RightValues
